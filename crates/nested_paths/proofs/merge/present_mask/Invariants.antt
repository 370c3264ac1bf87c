use Rattle.std.proofs.Common.{◌≡◌, not, map}
use Rattle.shredding.specs.Parts.{slots_from}
use Rattle.columns_slots.specs.Slots.{slot_at, is_null}
use Rattle.nested_paths.proofs.merge.present_mask.Given as goal

abbrev pub invariant-loop-i : goal.invariant-loop-i
invariant-loop-i l = l.bits.0 ≡ map (λ s. not (is_null s)) (slots_from (slot_at l.keyed) 0 l.i)
