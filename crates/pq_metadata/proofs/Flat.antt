-- A footer and its flat form.
use Rattle.std.specs.Prelude.{◌↔◌}
use Rattle.pq_thrift.specs.Value.{Fields}
use Rattle.pq_metadata.specs.FlatFooter.{HasFlatFooter, flat_form}
use Rattle.pq_metadata.specs.Footer.{Footer, HasFooter}

to_flat : (fs : Fields) (f : Footer) → HasFooter fs f → HasFlatFooter fs (flat_form f)
to_flat fs f h =
    record {
      version = h.version;
      kind = h.kind;
      elements = h.elements;
      has_elements = h.has_elements;
      schema = record { first = h.tree.first; others = h.tree.others; parts = h.tree.parts; root = h.tree.root; are = h.tree.nodes };
      num_rows = h.num_rows;
      group_kind = h.group_kind;
      groups = h.groups;
      has_groups = h.has_groups;
      are = h.are;
      keys = h.keys;
      plain = h.plain;
    }

from_flat : (fs : Fields) (f : Footer) → HasFlatFooter fs (flat_form f) → HasFooter fs f
from_flat fs f h =
    record {
      version = h.version;
      kind = h.kind;
      elements = h.elements;
      has_elements = h.has_elements;
      tree = record { first = h.schema.first; others = h.schema.others; parts = h.schema.parts; root = h.schema.root; nodes = h.schema.are };
      num_rows = h.num_rows;
      group_kind = h.group_kind;
      groups = h.groups;
      has_groups = h.has_groups;
      are = h.are;
      keys = h.keys;
      plain = h.plain;
    }

pub flat_same : (fs : Fields) (f : Footer) → HasFooter fs f ↔ HasFlatFooter fs (flat_form f)
flat_same fs f = (to_flat fs f, from_flat fs f)
