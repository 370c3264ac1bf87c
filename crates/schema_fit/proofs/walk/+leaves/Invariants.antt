use Rattle.std.proofs.Common.{◌≡◌, drop}
use Rattle.columns_core.specs.View.{fields_view}
use Rattle.schema_fit.specs.Skeleton.{fields_bones}
use Rattle.schema_fit.specs.Walk.{has_bones}
use Rattle.schema_fit.proofs.walk.+leaves.Given as goal

abbrev pub invariant-hold_leaf-loop-field : goal.invariant-hold_leaf-loop-field
invariant-hold_leaf-loop-field l = has_bones (fields_bones (fields_view (drop l.field-index l.fields))) ≡ has_bones (fields_bones (fields_view l.fields))
