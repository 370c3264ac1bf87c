-- A varint at the front is read, whatever follows it, and what is read stands at the front.
use Rattle.std.proofs.Common.{◌≡◌, ℕ, zero, suc, ◌+◌, ◌*◌, ◌%◌, ◌^◌, ◌<◌, ◌≤◌, true, false, ltb, List, [], ◌∷◌, ◌++◌, length, Option, Some, None, refl, sym, ap, ◌∙◌, inl, inr, arith}
use Rattle.std.proofs.lemmas.Bool.{le-ltb, lt-ltb, cases_lt}
use Rattle.pq_numbers.specs.Varint.{IsVarint, IsNumber, varint_step, varint_up_to, varint_at}

abbrev found : ℕ → List ℕ → Option (ℕ × List ℕ)
found n rest = Some (n, rest)

varint_again : (k : ℕ) (text : List ℕ) (n : ℕ) (rest : List ℕ) → IsVarint text n → length text ≤ k → n < 2 ^ 64 → varint_up_to k (text ++ rest) ≡ Some (n, rest)
unfolding varint_up_to
varint_again k [] n rest h short below = absurd h
varint_again zero (b ∷ bytes) n rest h short below = absurd (omega arith)
varint_again (suc k) (b ∷ bytes) n rest h short below =
    elim h [
      | inl (small, is, last) ↦
          let test : ltb b 128 ≡ true = lt-ltb b 128 small in
          rw (test, last, is) refl
      | inr (large, high, is, more) ↦
          let test : ltb b 128 ≡ false = le-ltb b 128 large in
          let low : b % 128 < 128 = omega arith in
          let limit : high < 2 ^ 57 = omega (arith, low, is, below) in
          let fits : ltb high (2 ^ 57) ≡ true = lt-ltb high (2 ^ 57) limit in
          let again = varint_again k bytes high rest more (omega arith) (omega (arith, limit)) in
          rw (test, again, fits, is) refl
    ]

pub number_again : (text : List ℕ) (n : ℕ) (rest : List ℕ) → IsNumber text n → varint_at (text ++ rest) ≡ Some (n, rest)
number_again text n rest h = varint_again 10 text n rest h.digits h.short h.below

-- ---- what is read stands there

some_same : (x y : ℕ × List ℕ) → Some x ≡ Some y → x ≡ y
some_same x y e = cc

same_number : (n m : ℕ) (rest tail : List ℕ) → found n rest ≡ found m tail → n ≡ m
same_number n m rest tail e = ap (λ (p : ℕ × List ℕ). p.0) (some_same (n, rest) (m, tail) e)

same_rest : (n m : ℕ) (rest tail : List ℕ) → found n rest ≡ found m tail → rest ≡ tail
same_rest n m rest tail e = ap (λ (p : ℕ × List ℕ). p.1) (some_same (n, rest) (m, tail) e)

pub record Stands (k : ℕ) (bytes : List ℕ) (n : ℕ) (rest : List ℕ) : Type 0 where
  pub text : List ℕ
  pub parts : bytes ≡ text ++ rest
  pub digits : IsVarint text n
  pub short : length text ≤ k
  pub below : n < 2 ^ 64

one_byte : (k b : ℕ) (bytes : List ℕ) (n : ℕ) (rest : List ℕ) → b < 128 → found b bytes ≡ found n rest → Stands (suc k) (b ∷ bytes) n rest
one_byte k b bytes n rest small e =
    let same = same_number b n bytes rest e in
    let behind = same_rest b n bytes rest e in
    record {
      text = b ∷ [];
      parts = ap (λ (t : List ℕ). b ∷ t) behind;
      digits = inl (small, sym same, refl);
      short = omega arith;
      below = omega (arith, small, same);
    }

more_bytes : (k b : ℕ) (bytes : List ℕ) (n : ℕ) (rest : List ℕ) (high : ℕ × List ℕ) → 128 ≤ b → high.0 < 2 ^ 57 → found (b % 128 + 128 * high.0) high.1 ≡ found n rest → Stands k bytes high.0 high.1 → Stands (suc k) (b ∷ bytes) n rest
more_bytes k b bytes n rest high large limit e s =
    let same = same_number (b % 128 + 128 * high.0) n high.1 rest e in
    let behind = same_rest (b % 128 + 128 * high.0) n high.1 rest e in
    let low : b % 128 < 128 = omega arith in
    record {
      text = b ∷ s.text;
      parts = ap (λ (t : List ℕ). b ∷ t) s.parts ∙ ap (λ (t : List ℕ). b ∷ (s.text ++ t)) behind;
      digits = inr (large, high.0, sym same, s.digits);
      short = omega (arith, s.short);
      below = omega (arith, same, limit, low);
    }

step_stands : (k b : ℕ) (bytes : List ℕ) (n : ℕ) (rest : List ℕ) (read : Option (ℕ × List ℕ)) → 128 ≤ b → ((m : ℕ) (tail : List ℕ) → read ≡ Some (m, tail) → Stands k bytes m tail) → varint_step b read ≡ Some (n, rest) → Stands (suc k) (b ∷ bytes) n rest
step_stands k b bytes n rest None large below e = absurd cc
step_stands k b bytes n rest (Some high) large below e =
    elim (cases_lt high.0 (2 ^ 57)) [
      | inl small ↦
          more_bytes k b bytes n rest high large small (rw (lt-ltb high.0 (2 ^ 57) small) at e) (below high.0 high.1 refl)
      | inr big ↦
          let no = rw (le-ltb high.0 (2 ^ 57) big) at e in
          absurd cc
    ]

pub varint_stands : (k : ℕ) (bytes : List ℕ) (n : ℕ) (rest : List ℕ) → varint_up_to k bytes ≡ Some (n, rest) → Stands k bytes n rest
unfolding varint_up_to
varint_stands zero bytes n rest e = absurd cc
varint_stands (suc k) [] n rest e = absurd cc
varint_stands (suc k) (b ∷ bytes) n rest e =
    elim (cases_lt b 128) [
      | inl small ↦ one_byte k b bytes n rest small (rw (lt-ltb b 128 small) at e)
      | inr large ↦ step_stands k b bytes n rest (varint_up_to k bytes) large (λ m tail e'. varint_stands k bytes m tail e') (rw (le-ltb b 128 large) at e)
    ]

pub number_stands : (bytes : List ℕ) (n : ℕ) (rest : List ℕ) → varint_at bytes ≡ Some (n, rest) → (text : List ℕ) × (bytes ≡ text ++ rest) × IsNumber text n
number_stands bytes n rest e =
    let s = varint_stands 10 bytes n rest e in
    (s.text, s.parts, record { digits = s.digits; short = s.short; below = s.below })

pub varint-none : varint_at [] ≡ None
unfolding varint_up_to
varint-none = refl
