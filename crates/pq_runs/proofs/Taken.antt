-- The run at the front.
use Rattle.std.proofs.Common.{◌≡◌, ℕ, suc, ◌+◌, ◌*◌, ◌/◌, ◌%◌, ◌<◌, ◌≤◌, List, length, take, drop, min, Some, sym, ap, subst, ◌∙◌, arith, inl, inr}
use Rattle.std.proofs.lemmas.Nat.{div-add-mod', mod_below, mul-le}
use Rattle.std.proofs.lemmas.Bool.{cases_lt}
use Rattle.std.proofs.lemmas.List.{take_all, drop_all}
use Rattle.pq_numbers.specs.Bits.{bytes_for}
use Rattle.pq_runs.specs.Taking.{IsPackedRun, NoRun}
use Rattle.pq_numbers.specs.Varint.{varint_at}

pub no_copy : (w : ℕ) (bytes : List ℕ) (head : ℕ) (tail : List ℕ) → varint_at bytes ≡ Some (head, tail) → head % 2 ≡ 0 → length tail < bytes_for w → NoRun w bytes
no_copy w bytes head tail e even short =
    let twice : head ≡ 2 * (head / 2) = omega (arith, even) in
    inr (head / 2, tail, subst (λ (n : ℕ). varint_at bytes ≡ Some (n, tail)) twice e, short)

pub packed_run : (w : ℕ) (bytes : List ℕ) (head : ℕ) (tail body rest : List ℕ) → varint_at bytes ≡ Some (head, tail) → head % 2 ≡ 1 → body ≡ take (w * (head / 2)) tail → rest ≡ drop (w * (head / 2)) tail → IsPackedRun w bytes body rest
packed_run w bytes head tail body rest e odd is behind =
    let twice : head ≡ 2 * (head / 2) + 1 = omega (arith, odd) in
    record { groups = head / 2; tail = tail; head = subst (λ (n : ℕ). varint_at bytes ≡ Some (n, tail)) twice e; is = is; behind = behind }

pub past : (w count n : ℕ) → 0 < w → n / w < count → n ≤ w * count
past w count n h lt =
    let le : n / w * w + n % w ≡ n = div-add-mod' n w in
    let low : n % w < w = mod_below n w h in
    let all : suc (n / w) * w ≤ count * w = mul-le (suc (n / w)) w count w lt (omega arith) in
    omega (arith, le, low, all)

pub take_min : (n : ℕ) (xs : List ℕ) → take (min n (length xs)) xs ≡ take n xs
take_min n xs =
    elim (cases_lt n (length xs)) [
      | inl lt ↦ let e : min n (length xs) ≡ n = omega (arith, lt) in ap (λ (k : ℕ). take k xs) e
      | inr le ↦ take_all (min n (length xs)) xs (omega (arith, le)) ∙ sym (take_all n xs le)
    ]

pub drop_min : (n : ℕ) (xs : List ℕ) → drop (min n (length xs)) xs ≡ drop n xs
drop_min n xs =
    elim (cases_lt n (length xs)) [
      | inl lt ↦ let e : min n (length xs) ≡ n = omega (arith, lt) in ap (λ (k : ℕ). drop k xs) e
      | inr le ↦ drop_all (min n (length xs)) xs (omega (arith, le)) ∙ sym (drop_all n xs le)
    ]
