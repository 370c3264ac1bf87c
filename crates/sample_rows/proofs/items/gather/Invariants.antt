use Rattle.sample_rows.specs.Parts.{AreItems}
use Rattle.sample_rows.proofs.items.gather.Given as goal

abbrev pub invariant-loop-i : goal.invariant-loop-i
invariant-loop-i l = AreItems l.i l.items.offsets.0 l.items.numbers.items l.items.mask.0
