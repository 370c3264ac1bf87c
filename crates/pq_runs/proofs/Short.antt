-- How many bits a writer of runs takes.
use Rattle.std.proofs.Common.{◌≡◌, ◌≢◌, ◌⊎◌, inl, inr, ℕ, zero, suc, ◌+◌, ◌-◌, ◌*◌, ◌/◌, ◌^◌, ◌<◌, ◌≤◌, ◌==◌, Bool, true, false, cond, List, [], ◌∷◌, ◌++◌, length, replicate, refl, sym, ap, subst, ◌∙◌, arith, append-nil, append_assoc}
use Rattle.std.proofs.lemmas.Bool.{eq-eqb}
use Rattle.std.proofs.lemmas.Bool.Decides.{eqb_tells}
use Rattle.std.proofs.lemmas.Nat.{mul-le}
use Rattle.std.proofs.lemmas.List.{length-append}
use Rattle.pq_runs.specs.Stretches.{stretches, one_if_any, stretch_bits, filled_up, Takes, Spent}
use Rattle.pq_runs.proofs.Steps.{replicate-append}

-- ---- stretches

-- one number more behind a last one
pub stretches-push : (xs : List ℕ) (x v : ℕ) → stretches ((xs ++ x ∷ []) ++ v ∷ []) ≡ stretches (xs ++ x ∷ []) + cond (x == v) 0 1
stretches-push [] x v = omega arith
stretches-push (a ∷ []) x v = omega arith
stretches-push (a ∷ b ∷ xs) x v = ap (λ (k : ℕ). cond (a == b) 0 1 + k) (stretches-push (b ∷ xs) x v) ∙ omega arith

-- the last copy is the last number
last_copy : (settled : List ℕ) (c number : ℕ) (xs : List ℕ) → settled ++ replicate (suc c) number ≡ xs → xs ≡ (settled ++ replicate c number) ++ number ∷ []
last_copy settled c number xs e =
    let more : c + 1 ≡ suc c = omega arith in
    sym e ∙ ap (λ (t : List ℕ). settled ++ t) (sym (replicate-append c 1 number ∙ ap (λ (k : ℕ). replicate k number) more)) ∙ sym (append_assoc settled (replicate c number) (number ∷ []))

more_stretches : (settled : List ℕ) (c number value : ℕ) (xs : List ℕ) → settled ++ replicate (suc c) number ≡ xs → stretches (xs ++ value ∷ []) ≡ stretches xs + cond (number == value) 0 1
more_stretches settled c number value xs e = rw (last_copy settled c number xs e) (stretches-push (settled ++ replicate c number) number value)

nothing_settled : (settled : ℕ) (xs : List ℕ) → xs ≡ [] → settled + one_if_any 0 ≤ stretches xs + (length xs - 0) / 2 ^ 40 → settled ≡ 0
nothing_settled settled xs e h = let s : settled + 0 ≤ 0 = subst (λ (t : List ℕ). settled + 0 ≤ stretches t + (length t - 0) / 2 ^ 40) e h in omega (arith, s)

first_of : (settled v : ℕ) (xs : List ℕ) → xs ≡ [] → settled ≡ 0 → settled + 1 ≤ stretches (xs ++ v ∷ []) + (length (xs ++ v ∷ []) - 1) / 2 ^ 40
first_of settled v xs e none = rw e (omega (arith, none))

pub spent_more : (w : ℕ) (start out block settled : List ℕ) (number count : ℕ) (xs : List ℕ) → settled ++ replicate count number ≡ xs → Spent w start out block count xs → Spent w start out block (count + 1) (xs ++ number ∷ [])
spent_more w start out block settled number zero xs e s =
    let none : xs ≡ [] = s.none refl in
    record {
      settled = s.settled;
      bits = s.bits;
      some = first_of s.settled number xs none (nothing_settled s.settled xs none s.some);
      most = omega (arith, length-append xs (number ∷ []));
      none = λ z. absurd (omega (arith, z));
    }
spent_more w start out block settled number (suc c) xs e s =
    let same : ◌≡◌ {A = ℕ} (cond (number == number) 0 1) 0 = ap (λ (b : Bool). cond b 0 1) (eq-eqb number number refl) in
    let n : length (xs ++ number ∷ []) ≡ length xs + 1 = length-append xs (number ∷ []) in
    let left : length (xs ++ number ∷ []) - (suc c + 1) ≡ length xs - suc c = omega (arith, n) in
    let one : one_if_any (suc c + 1) ≡ 1 = let more : suc c + 1 ≡ suc (suc c) = omega arith in ap one_if_any more in
    let rest : (length (xs ++ number ∷ []) - (suc c + 1)) / 2 ^ 40 ≡ (length xs - suc c) / 2 ^ 40 = ap (λ (k : ℕ). k / 2 ^ 40) left in
    record {
      settled = s.settled;
      bits = s.bits;
      some = omega (arith, s.some, one, same, more_stretches settled c number number xs e, rest);
      most = omega (arith, n, s.most);
      none = λ z. absurd (omega (arith, z));
    }

pub spent_next : (w : ℕ) (start out out' block block' settled : List ℕ) (number count value : ℕ) (xs : List ℕ) → settled ++ replicate count number ≡ xs → (number ≡ value → 2 ^ 40 ≤ count) → Spent w start out block count xs
    → Takes w out block out' block' (stretch_bits w * one_if_any count) → Spent w start out' block' 1 (xs ++ value ∷ [])
spent_next w start out out' block block' settled number zero value xs e ends s t =
    let none : xs ≡ [] = s.none refl in
    let zero_bits : stretch_bits w * 0 ≡ 0 = omega arith in
    record {
      settled = s.settled;
      bits = omega (arith, s.bits, t, zero_bits);
      some = first_of s.settled value xs none (nothing_settled s.settled xs none s.some);
      most = omega (arith, length-append xs (value ∷ []));
      none = λ z. absurd (omega (arith, z));
    }
spent_next w start out out' block block' settled number (suc c) value xs e ends s t =
    let one : stretch_bits w * 1 ≡ stretch_bits w = omega arith in
    let bits : stretch_bits w * (s.settled + 1) ≡ stretch_bits w * s.settled + stretch_bits w = omega arith in
    let n : length (xs ++ value ∷ []) ≡ length xs + 1 = length-append xs (value ∷ []) in
    let left : length (xs ++ value ∷ []) - 1 ≡ length xs = omega (arith, n) in
    let rest : (length (xs ++ value ∷ []) - 1) / 2 ^ 40 ≡ length xs / 2 ^ 40 = ap (λ (k : ℕ). k / 2 ^ 40) left in
    record {
      settled = s.settled + 1;
      bits = omega (arith, s.bits, t, one, bits);
      some = omega (arith, s.some, by (eqb_tells number value), more_stretches settled c number value xs e, rest);
      most = omega (arith, n);
      none = λ z. absurd (omega (arith, z));
    }
  where
    by : (((number == value) ≡ true) × (number ≡ value)) ⊎ (((number == value) ≡ false) × (number ≢ value)) → (length xs - suc c) / 2 ^ 40 + 1 ≤ cond (number == value) 0 1 + length xs / 2 ^ 40
    by (inl same) = let many : 2 ^ 40 ≤ suc c = ends same.1 in rw same.0 (omega (arith, many, s.most))
    by (inr other) = rw other.0 (omega arith)

pub nothing_spent : (w : ℕ) (start : List ℕ) → Spent w start start [] 0 []
nothing_spent w start = record {
  settled = 0;
  bits = omega arith;
  some = omega arith;
  most = omega arith;
  none = λ z. refl;
}

-- more copies of the number that waits
pub spent_copies : (w : ℕ) (start out block settled : List ℕ) (number count n : ℕ) (xs : List ℕ) → settled ++ replicate count number ≡ xs → Spent w start out block count xs → Spent w start out block (count + n) (xs ++ replicate n number)
spent_copies w start out block settled number count zero xs e s =
    let same : count ≡ count + 0 = omega arith in
    subst (λ (k : ℕ). Spent w start out block k (xs ++ [])) same (rw (append-nil xs) s)
spent_copies w start out block settled number count (suc n) xs e s =
    let more : settled ++ replicate (count + 1) number ≡ xs ++ number ∷ [] = ap (λ (t : List ℕ). settled ++ t) (sym (replicate-append count 1 number)) ∙ sym (append_assoc settled (replicate count number) (number ∷ [])) ∙ ap (λ (t : List ℕ). t ++ number ∷ []) e in
    let rest = spent_copies w start out block settled number (count + 1) n (xs ++ number ∷ []) more (spent_more w start out block settled number count xs e s) in
    let same : count + 1 + n ≡ count + suc n = omega arith in
    subst (λ (k : ℕ). Spent w start out block k (xs ++ replicate (suc n) number)) same (subst (λ (ys : List ℕ). Spent w start out block (count + 1 + n) ys) (append_assoc xs (number ∷ []) (replicate n number)) rest)

-- the number that waited is settled, and copies of the next one wait
pub spent_others : (w : ℕ) (start out out' block block' settled : List ℕ) (number count number' n : ℕ) (xs : List ℕ) → 0 < n → settled ++ replicate count number ≡ xs → (number ≡ number' → 2 ^ 40 ≤ count) → Spent w start out block count xs
    → Takes w out block out' block' (stretch_bits w * one_if_any count) → Spent w start out' block' n (xs ++ replicate n number')
spent_others w start out out' block block' settled number count number' zero xs some e ends s t = absurd (omega (arith, some))
spent_others w start out out' block block' settled number count number' (suc n) xs some e ends s t =
    let first : Spent w start out' block' 1 (xs ++ number' ∷ []) = spent_next w start out out' block block' settled number count number' xs e ends s t in
    let rest = spent_copies w start out' block' xs number' 1 n (xs ++ number' ∷ []) refl first in
    let same : 1 + n ≡ suc n = omega arith in
    subst (λ (k : ℕ). Spent w start out' block' k (xs ++ replicate (suc n) number')) same (subst (λ (ys : List ℕ). Spent w start out' block' (1 + n) ys) (append_assoc xs (number' ∷ []) (replicate n number')) rest)

-- all are settled, and the last groups written
pub spent_done : (w : ℕ) (start out mid out' block block' : List ℕ) (count : ℕ) (xs : List ℕ) → Spent w start out block count xs → Takes w out block mid block' (stretch_bits w * one_if_any count) → 8 * length out' ≤ 8 * length mid + 8 + w * filled_up (length block')
    → length out' ≤ length start + ((2 * w + 19) * (stretches xs + length xs / 2 ^ 40) + 1)
spent_done w start out mid out' block block' count xs s t size =
    let most : ℕ = stretches xs + length xs / 2 ^ 40 in
    let enough : s.settled + one_if_any count ≤ most = omega (arith, s.some) in
    let bits : stretch_bits w * (s.settled + one_if_any count) ≤ stretch_bits w * most = mul-le (stretch_bits w) (s.settled + one_if_any count) (stretch_bits w) most (omega arith) enough in
    let sum : stretch_bits w * (s.settled + one_if_any count) ≡ stretch_bits w * s.settled + stretch_bits w * one_if_any count = omega arith in
    let none : w * filled_up (length {A = ℕ} []) ≡ 0 = omega arith in
    omega (arith, s.bits, t, size, bits, sum, none, bytes_of most)
  where
    bytes_of : (k : ℕ) → stretch_bits w * k ≤ 8 * ((2 * w + 19) * k)
    bytes_of k = omega arith
