-- The fields of a schema element as the reader keeps them.
use Rattle.std.specs.Prelude.{ℕ, List, option_map}
use Rattle.std.specs.Option.{option_copied}
use Rattle.pq_thrift.specs.Value.{Value, fields_view}
use Rattle.pq_container.specs.declared.elements.RawElement.{RawElement as Raw}
use Rattle.pq_metadata.specs.Elements.{RawElement, SpellsRoot}

abbrev pub raw_view : Raw → RawElement
raw_view r =
    record {
      type = r.physical_type;
      type_length = r.type_length;
      repetition = r.repetition_type;
      name = r.name.now;
      num_children = r.num_children;
      converted = r.converted_type;
      scale = r.scale;
      precision = r.precision;
      field_id = r.field_id;
      logical = option_map fields_view (option_copied r.logical_type);
    }

-- a root's name and the number of its children, as one
abbrev pub SpellsRootAs : Value → List ℕ × ℕ → Type 0
SpellsRootAs v r = SpellsRoot v r.0 r.1
