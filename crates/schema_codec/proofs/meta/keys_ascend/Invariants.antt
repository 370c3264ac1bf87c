use Rattle.std.proofs.Common.{◌≡◌, ◌-◌, drop}
use Rattle.columns_core.specs.Meta.{texts}
use Rattle.schema_codec.specs.Ascending.{is_ascending}
use Rattle.schema_codec.proofs.meta.keys_ascend.Given as goal

abbrev pub invariant-loop-i : goal.invariant-loop-i
invariant-loop-i l = is_ascending (texts (drop (l.i - 1) l.entries)) ≡ is_ascending (texts l.entries)
