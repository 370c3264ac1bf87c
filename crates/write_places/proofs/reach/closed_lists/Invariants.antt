use Rattle.std.proofs.Common.{◌≡◌, ℕ, ◌+◌, ◌^◌, ◌<◌, length}
use Rattle.std.specs.Int.{bit_at}
use Rattle.shredding.specs.Parts.{item_start}
use Rattle.write_places.specs.Places.{picked}
use Rattle.write_places.proofs.reach.closed_lists.Given as goal

abbrev pub decreases-loop-absent : goal.decreases-loop-absent
decreases-loop-absent g l = length (picked l.absent l.place l.count)

abbrev pub invariant-loop-absent : goal.invariant-loop-absent
invariant-loop-absent g l = record {
  low : l.absent < 2 ^ l.count;
  closed : (i : ℕ) → i < l.count → bit_at l.word i ≡ 0 → bit_at l.absent i ≡ 0 → item_start l.offsets (l.place + i) ≡ item_start l.offsets (l.place + i + 1);
}
