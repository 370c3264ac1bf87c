use Rattle.std.proofs.Common.{refl, sym, ◌∙◌}
use Rattle.std.specs.Prelude.{option_map}
use Rattle.pq_tree.specs.Views.{logical_view}
use Rattle.pq_container.proofs.Parts.{none_of}
use Rattle.pq_container.proofs.elements.root_parts.Goals as goal

pub returns-clause-found : goal.returns-clause-found
returns-clause-found c =
    record {
      is_group = none_of c.args.raw.now.physical_type (sym c.is_some.ensures ∙ c.if-is_some.false);
      counts = c.in_ok-num_children.ensures.found;
      is_named = refl;
      precision = c.in_ok-_precision._precision;
      scale = c.in_ok-_scale._scale;
      has_precision = c.in_ok-_precision.ensures.found;
      has_scale = c.in_ok-_scale.ensures.found;
      annotation = option_map logical_view c.in_ok-_annotation._annotation;
      logical = sym c.in_ok-_annotation.ensures;
    }
