-- The digits of a varint that is written.
use Rattle.std.proofs.Common.{◌≡◌, ℕ, zero, suc, ◌+◌, ◌-◌, ◌/◌, ◌%◌, ◌<◌, ◌≤◌, false, true, ltb, List, [], ◌∷◌, ◌++◌, refl, sym, ap, ◌∙◌, append_assoc, arith, subst, inl, inr, ◌*◌, ◌^◌, length}
use Rattle.std.proofs.lemmas.Bool.{lt-ltb, le-ltb, cases_lt}
use Rattle.std.proofs.Math.Nat.{pow-suc}
use Rattle.pq_numbers.specs.Varint.{digits, varint, IsVarint, IsNumber}

pub digits-last : (k n : ℕ) → n < 128 → digits k n ≡ n ∷ []
unfolding digits
digits-last zero n h = refl
digits-last (suc k) n h =
    let test : ltb n 128 ≡ true = lt-ltb n 128 h in
    rw test

pub digits-more : (k n : ℕ) → 128 ≤ n → n ≤ k → digits k n ≡ (n % 128 + 128) ∷ digits (k - 1) (n / 128)
unfolding digits
digits-more zero n h le = absurd (omega arith)
digits-more (suc k) n h le =
    let test : ltb n 128 ≡ false = le-ltb n 128 h in
    let e : k ≡ suc k - 1 = omega arith in
    rw test (ap (λ (j : ℕ). (n % 128 + 128) ∷ digits j (n / 128)) e)

-- what is written and what is left to write are all
pub record Writes (out : List ℕ) (left : ℕ) (all : List ℕ) : Type 0 where
  pub most : ℕ
  pub enough : left ≤ most
  pub so_far : out ++ digits most left ≡ all

pub writes_begin : (out : List ℕ) (n : ℕ) → Writes out n (out ++ digits n n)
writes_begin out n = record { most = n; enough = omega arith; so_far = refl }

pub writes_more : (out : List ℕ) (left : ℕ) (all : List ℕ) → 128 ≤ left → Writes out left all → Writes (out ++ (left % 128 + 128) ∷ []) (left / 128) all
writes_more out left all h w = record {
  most = w.most - 1;
  enough = omega (arith, w.enough);
  so_far = append_assoc out ((left % 128 + 128) ∷ []) (digits (w.most - 1) (left / 128)) ∙ ap (λ (t : List ℕ). out ++ t) (sym (digits-more w.most left h w.enough)) ∙ w.so_far;
}

pub writes_end : (out : List ℕ) (left : ℕ) (all : List ℕ) → left < 128 → Writes out left all → out ++ left ∷ [] ≡ all
writes_end out left all h w = ap (λ (t : List ℕ). out ++ t) (sym (digits-last w.most left h)) ∙ w.so_far

-- ---- a varint is a number, and short

is_varint : (k n : ℕ) → n ≤ k → IsVarint (digits k n) n
unfolding digits
is_varint zero n le = let e : n ≡ 0 = omega arith in let small : n < 128 = omega arith in inl (small, refl, refl)
is_varint (suc k) n le =
    elim (cases_lt n 128) [
      | inl small ↦ subst (λ (t : List ℕ). IsVarint t n) (sym (digits-last (suc k) n small)) (inl (small, refl, refl))
      | inr large ↦
          let low : 128 ≤ n % 128 + 128 = omega arith in
          let is : n ≡ (n % 128 + 128) % 128 + 128 * (n / 128) = omega arith in
          let more : digits (suc k) n ≡ (n % 128 + 128) ∷ digits k (n / 128) = rw (le-ltb n 128 large) refl in
          subst (λ (t : List ℕ). IsVarint t n) (sym more) (inr (low, n / 128, is, is_varint k (n / 128) (omega arith)))
    ]

-- sixteen times the bytes of a varint are at most the number and sixteen
pub varint-size : (k n : ℕ) → 16 * length (digits k n) ≤ n + 16
unfolding digits
varint-size zero n = omega arith
varint-size (suc k) n =
    elim (cases_lt n 128) [
      | inl small ↦ rw (lt-ltb n 128 small) (omega arith)
      | inr large ↦ rw (le-ltb n 128 large) (omega (arith, varint-size k (n / 128)))
    ]

-- and at most the number, from 16 on
pub varint-size_below : (k n : ℕ) → 16 ≤ n → 16 * length (digits k n) ≤ n
unfolding digits
varint-size_below zero n h = omega arith
varint-size_below (suc k) n h =
    elim (cases_lt n 128) [
      | inl small ↦ rw (lt-ltb n 128 small) (omega arith)
      | inr large ↦ rw (le-ltb n 128 large) (omega (arith, varint-size k (n / 128)))
    ]

digits-short : (j k n : ℕ) → n < 128 ^ suc j → length (digits k n) ≤ suc j
unfolding digits
digits-short j zero n h = omega arith
digits-short zero (suc k) n h = rw (lt-ltb n 128 (omega (arith, h))) (omega arith)
digits-short (suc j) (suc k) n h =
    elim (cases_lt n 128) [
      | inl small ↦ rw (lt-ltb n 128 small) (omega arith)
      | inr large ↦
          let p : 128 ^ suc (suc j) ≡ 128 ^ suc j * 128 = pow-suc 128 (suc j) in
          let below : n / 128 < 128 ^ suc j = omega (arith, h, p) in
          rw (le-ltb n 128 large) (omega (arith, digits-short j k (n / 128) below))
    ]

pub is_number : (n : ℕ) → n < 2 ^ 64 → IsNumber (varint n) n
is_number n h = record {
  digits = is_varint n n (omega arith);
  short = digits-short 9 n n (omega (arith, h));
  below = h;
}

-- one byte more behind what stood there
pub one_more : (start out some : List ℕ) (b : ℕ) → out ≡ start ++ some → (more : List ℕ) × (out ++ b ∷ [] ≡ start ++ more)
one_more start out some b e = (some ++ b ∷ [], ap (λ (t : List ℕ). t ++ b ∷ []) e ∙ append_assoc start some (b ∷ []))
