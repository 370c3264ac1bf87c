-- Signed numbers in zigzag.
use Rattle.std.proofs.Common.{◌≡◌, ◌≢◌, ℕ, ℤ, pos, negsuc, ◌+◌, ◌*◌, ◌/◌, ◌%◌, ◌^◌, ◌<◌, ◌≤◌, true, false, eqb, refl, arith}
use Rattle.std.proofs.lemmas.Bool.{eq-eqb, ne_eqb}
use Rattle.pq_numbers.specs.Varint.{varint}
use Rattle.pq_numbers.specs.Zigzag.{zigzag, unzigzag, IsSigned}
use Rattle.pq_numbers.proofs.Writes.{is_number}

pub unzigzag-zigzag : (z : ℤ) → z ≡ unzigzag (zigzag z)
unzigzag-zigzag (pos n) =
    let even : 2 * n % 2 ≡ 0 = omega arith in
    let test : eqb (2 * n % 2) 0 ≡ true = eq-eqb (2 * n % 2) 0 even in
    let half : 2 * n / 2 ≡ n = omega arith in
    rw (test, half) refl
unzigzag-zigzag (negsuc n) =
    let odd : (2 * n + 1) % 2 ≢ 0 = omega arith in
    let test : eqb ((2 * n + 1) % 2) 0 ≡ false = ne_eqb ((2 * n + 1) % 2) 0 odd in
    let half : (2 * n + 1) / 2 ≡ n = omega arith in
    rw (test, half) refl

pub is_signed : (limit : ℕ) (z : ℤ) → limit ≤ 2 ^ 64 → zigzag z < limit → IsSigned limit (varint (zigzag z)) z
is_signed limit z small h = record { n = zigzag z; number = is_number (zigzag z) (omega arith); fits = h; is = unzigzag-zigzag z }
