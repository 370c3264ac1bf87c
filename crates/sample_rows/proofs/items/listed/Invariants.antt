use Rattle.std.proofs.Common.{◌≡◌}
use Rattle.sample_rows.specs.Parts.{has_list}
use Rattle.sample_rows.specs.Rows.{each_row}
use Rattle.sample_rows.proofs.items.listed.Given as goal

abbrev pub invariant-loop-i : goal.invariant-loop-i
invariant-loop-i l = l.mask.0 ≡ each_row has_list l.i
