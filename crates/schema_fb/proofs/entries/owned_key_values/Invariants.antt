use Rattle.std.proofs.Common.{◌≡◌, ◌++◌, map}
use Rattle.columns_core.specs.Meta.{texts}
use Rattle.schema_fb.specs.Tables.{key_value}
use Rattle.schema_fb.specs.Views.{object_view}
use Rattle.schema_fb.proofs.entries.owned_key_values.Given as goal

abbrev pub invariant-loop-key : goal.invariant-loop-key
invariant-loop-key l = map object_view l.entries.items ++ map key_value (texts l.key-iterator) ≡ map key_value l.metadata
