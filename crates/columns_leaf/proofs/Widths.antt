-- Strings of one width, counted.
use Rattle.std.proofs.Common.{◌≡◌, ℕ, ◌+◌, ◌*◌, ◌/◌, ◌≤◌, ◌<◌, List, length, take, drop, ap, sym, ◌∙◌}
use Rattle.std.proofs.Math.Nat.{mul-div_cancel}
use Rattle.columns_slots.proofs.Sound.{length_cut}

pub whole_size : (bs : List ℕ) (start size width : ℕ) (seen : List ℕ) (w : ℕ) → take (size * width) (drop start bs) ≡ seen → start + size * width ≤ length bs → 0 < width → w ≡ width → length seen / w ≡ size
whole_size bs start size width seen w e h p q =
    let l : length seen ≡ size * width = ap length (sym e) ∙ length_cut bs start (size * width) h in
    rw (l, q) (mul-div_cancel size p)
