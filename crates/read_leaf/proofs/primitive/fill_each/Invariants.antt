use Rattle.std.proofs.Common.{ℕ, length, map, take}
use Rattle.read_leaf.proofs.MixedNumbers.{IsFilling}
use Rattle.read_leaf.proofs.primitive.fill_each.Given as goal

abbrev pub invariant-loop-bits : goal.invariant-loop-bits
invariant-loop-bits g l = IsFilling g.T.FromStored.loaded g.P.StoredNumber.spelled g.P.PlainNumber.byte_count l.valid (length l.places) l.bits l.bytes l.rest (λ (k : ℕ). map g.T.FromStored.loaded_number (take k l.places))

abbrev pub decreases-loop-bits : goal.decreases-loop-bits
decreases-loop-bits g l = l.bits
