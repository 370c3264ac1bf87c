use Rattle.std.proofs.Common.{◌≡◌, pos}
use Rattle.sample_rows.specs.Rows.{each_row}
use Rattle.sample_rows.proofs.ids.numbers.Given as goal

abbrev pub invariant-loop-i : goal.invariant-loop-i
invariant-loop-i l = l.numbers.items ≡ each_row pos l.i
