-- A word without its lowest set bit.
use Rattle.std.proofs.Common.{◌≡◌, ℕ, zero, suc, ◌+◌, ◌-◌, ◌*◌, ◌/◌, ◌%◌, ◌^◌, ◌<◌, bit_and, bit_xor, inl, inr, arith, ap, sym, ◌∙◌, pow-suc}
use Rattle.std.specs.Int.{bit_at, w64, trailing_zeros}
use Rattle.std.specs.Int.Bits.{and_self, xor_add_and}
use Rattle.std.proofs.lemmas.Bool.{cases_lt}
use Rattle.std.proofs.lemmas.Nat.{and_shr, one_shl}
use Rattle.std.proofs.lemmas.Nat.Bits.{bit_at_lowest, bit_at-suc, bit_at-zero, bit_at_and, bit_at-trailing_zeros, and_pow}

lowest-taken : (t n : ℕ) → ((j : ℕ) → j < t → bit_at n j ≡ 0) → bit_at n t ≡ 1 → bit_and n (n - 1) + 2 ^ t ≡ n
lowest-taken zero n below one =
    let odd : n % 2 ≡ 1 = sym (bit_at_lowest n) ∙ one in
    let half : (n - 1) / 2 ≡ n / 2 = omega (arith, odd) in
    let even : bit_at (n - 1) 0 ≡ 0 = bit_at_lowest (n - 1) ∙ omega (arith, odd) in
    let low : bit_and n (n - 1) % 2 ≡ 0 = sym (bit_at_lowest (bit_and n (n - 1))) ∙ (bit_at_and n (n - 1) 0 ∙ omega (arith, even)) in
    let high : bit_and n (n - 1) / 2 ≡ n / 2 = and_shr n (n - 1) 1 ∙ (ap (bit_and (n / 2)) half ∙ and_self (n / 2)) in
    omega (arith, odd, low, high)
lowest-taken (suc t) n below one =
    let even : n % 2 ≡ 0 = sym (bit_at_lowest n) ∙ below 0 (omega arith) in
    let set : bit_at (n / 2) t ≡ 1 = sym (bit_at-suc n t) ∙ one in
    let some : 0 < n / 2 = elim (cases_lt 0 (n / 2)) [
      | inl h ↦ h
      | inr h ↦ let z : n / 2 ≡ 0 = omega (arith, h) in absurd (omega (arith, set, ap (λ (k : ℕ). bit_at k t) z ∙ bit_at-zero t))
    ] in
    let less : (n - 1) / 2 ≡ n / 2 - 1 = omega (arith, even, some) in
    let high : bit_and n (n - 1) / 2 ≡ bit_and (n / 2) (n / 2 - 1) = and_shr n (n - 1) 1 ∙ ap (bit_and (n / 2)) less in
    let low : bit_and n (n - 1) % 2 ≡ 0 = sym (bit_at_lowest (bit_and n (n - 1))) ∙ (bit_at_and n (n - 1) 0 ∙ omega (arith, below 0 (omega arith))) in
    let rest : bit_and (n / 2) (n / 2 - 1) + 2 ^ t ≡ n / 2 = lowest-taken t (n / 2) (λ j h. sym (bit_at-suc n j) ∙ below (suc j) (omega (arith, h))) set in
    let p : 2 ^ suc t ≡ 2 ^ t * 2 = pow-suc 2 t in
    omega (arith, even, low, high, rest, p)

pub lowest-off : (n : ℕ) → 0 < n → n < 2 ^ 64 → bit_and n (n - 1) ≡ bit_xor n (1 * 2 ^ trailing_zeros w64 n % 2 ^ 64)
lowest-off n some fits =
    let t : ℕ = trailing_zeros w64 n in
    let z = bit_at-trailing_zeros w64 n some fits in
    let taken : bit_and n (n - 1) + 2 ^ t ≡ n = lowest-taken t n z.2 z.1 in
    let one : bit_and n (2 ^ t) ≡ 1 * 2 ^ t = and_pow n t ∙ ap (λ (k : ℕ). k * 2 ^ t) z.1 in
    let other : bit_xor n (2 ^ t) + bit_and n (2 ^ t) * 2 ≡ n + 2 ^ t = xor_add_and n (2 ^ t) in
    let both : bit_and n (n - 1) ≡ bit_xor n (2 ^ t) = omega (arith, taken, one, other) in
    both ∙ ap (bit_xor n) (sym (one_shl t 64 z.0))
