use Rattle.std.proofs.Common.{◌≡◌, ◌++◌, map}
use Rattle.std.specs.List.{range_with_len}
use Rattle.sample_rows.specs.Parts.{is_kept}
use Rattle.sample_rows.proofs.items.push_marks.Given as goal

abbrev pub invariant-loop-i : goal.invariant-loop-i
invariant-loop-i l = l.mask.0 ≡ l.fn.mask.0 ++ map is_kept (range_with_len l.row l.i)
