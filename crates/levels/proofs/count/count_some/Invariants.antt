use Rattle.std.proofs.Common.{◌≡◌, ℕ, ◌≤◌, ◌<◌, ◌==◌, ◌+◌, ◌-◌, ◌^◌, Bool, Option, List, min}
use Rattle.std.specs.Int.{bit_at}
use Rattle.shredding.specs.Parts.{is_present}
use Rattle.levels.specs.Sizes.{total, list_size}
use Rattle.levels.proofs.count.count_some.Given as goal

abbrev pub invariant-loop-i : goal.invariant-loop-i
invariant-loop-i g l = record {
  fits : l.sum ≤ 2 ^ 64 - 1;
  sums : (is_optional : Bool) (mask : Option (List Bool)) → ((i : ℕ) → i < l.count → (bit_at l.word i == 1) ≡ is_present is_optional mask (l.place + i)) → min (l.sum + total (list_size is_optional mask l.offsets) (l.place + l.i) (l.count - l.i)) (2 ^ 64 - 1) ≡ min (total (list_size is_optional mask l.offsets) l.place l.count) (2 ^ 64 - 1);
}
