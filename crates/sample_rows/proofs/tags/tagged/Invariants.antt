use Rattle.std.proofs.Common.{◌≡◌}
use Rattle.sample_rows.specs.Parts.{has_tag}
use Rattle.sample_rows.specs.Rows.{each_row}
use Rattle.sample_rows.proofs.tags.tagged.Given as goal

abbrev pub invariant-loop-i : goal.invariant-loop-i
invariant-loop-i l = l.mask.0 ≡ each_row has_tag l.i
