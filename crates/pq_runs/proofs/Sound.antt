-- What is read is spelled.
use Rattle.std.specs.Prelude.{◌↔◌}
use Rattle.std.proofs.Common.{◌≡◌, ℕ, zero, suc, ◌+◌, ◌-◌, ◌*◌, ◌/◌, ◌%◌, ◌^◌, ◌<◌, ◌≤◌, List, [], ◌∷◌, ◌++◌, length, take, drop, replicate, Option, Some, None, Err, refl, sym, ap, subst, ◌∙◌, arith, append-nil, inl, inr}
use Rattle.std.proofs.lemmas.Nat.{mul-le, div-add-mod'}
use Rattle.std.proofs.lemmas.Bool.{lt-ltb, le-ltb, eq-eqb, ne_eqb, cases_lt, cases_eq}
use Rattle.std.proofs.lemmas.List.{append_assoc, length-append, length-replicate, length-take, take-append-drop}
use Rattle.pq_runs.specs.Hybrid.{given, fault}
use Rattle.pq_numbers.specs.Bits.{bytes_for, unpacked}
use Rattle.pq_numbers.specs.Texts.{number_of}
use Rattle.pq_runs.specs.Hybrid.{Item, Reader, copies_at, groups_items, standing, groups_at, run_at, runs_items, hybrid}
use Rattle.pq_runs.specs.Spelled.{Spelled}
use Rattle.pq_runs.specs.Runs.{Runs, no_more, no_bits, copies, last_copies, groups, last_groups}
use Rattle.pq_numbers.specs.Varint.{IsNumber, varint_at}
use Rattle.pq_numbers.proofs.Digits.{length-digits}
use Rattle.pq_numbers.proofs.Numbers.{number_stands}
use Rattle.pq_runs.proofs.Complete.{given-replicate, reads}

no_error : (tail : List Item) (xs : List ℕ) → Err fault ∷ tail ≡ given xs → ⊥
no_error tail [] e = cc e
no_error tail (x ∷ xs) e = cc e

given_split : (a : List ℕ) (rest : List Item) (xs : List ℕ) → given a ++ rest ≡ given xs → (ys : List ℕ) × (xs ≡ a ++ ys) × (rest ≡ given ys)
given_split [] rest xs e = (xs, refl, e)
given_split (x ∷ a) rest [] e = absurd (cc e)
given_split (x ∷ a) rest (y ∷ xs) e =
    let head : x ≡ y = cc in
    let tail : given a ++ rest ≡ given xs = cc in
    let s = given_split a rest xs tail in
    (s.0, ap (λ (t : List ℕ). y ∷ t) s.1 ∙ ap (λ (z : ℕ). z ∷ (a ++ s.0)) (sym head), s.2)

given_is : (xs ys : List ℕ) → given xs ≡ given ys → ys ≡ xs
given_is xs ys e =
    let s = given_split xs [] ys (append-nil (given xs) ∙ e) in
    let none : s.0 ≡ [] = nothing s.0 (sym s.2) in
    s.1 ∙ ap (λ (t : List ℕ). xs ++ t) none ∙ append-nil xs
  where
    nothing : (ys : List ℕ) → given ys ≡ [] → ys ≡ []
    nothing [] e = refl
    nothing (y ∷ ys) e = absurd (cc e)

-- ---- building

put_front : (w n : ℕ) (bytes xs ys : List ℕ) → xs ≡ ys → Spelled w n bytes xs → Spelled w n bytes ys
put_front w n bytes xs ys e s = subst (λ (zs : List ℕ). Spelled w n bytes zs) e s

more_copies : (w n m : ℕ) (head behind ys : List ℕ) → IsNumber head (2 * m) → bytes_for w ≤ length behind → m < n → Spelled w (n - m) (drop (bytes_for w) behind) ys → Spelled w n (head ++ behind) (replicate m (number_of (take (bytes_for w) behind)) ++ ys)
more_copies w n m head behind [] number long lt s = absurd (omega (arith, s.count, lt))
more_copies w n m head behind (y ∷ ys) number long lt s =
    let value = take (bytes_for w) behind in
    let size : length value ≡ bytes_for w = omega (arith, long, length-take (bytes_for w) behind) in
    let whole : behind ≡ value ++ (s.begins.text ++ s.begins.rest) = sym (take-append-drop (bytes_for w) behind) ∙ ap (λ (t : List ℕ). value ++ t) s.begins.parts in
    record {
      count = omega (arith, s.count, lt, length-append (replicate m (number_of value)) (y ∷ ys), length-replicate m (number_of value));
      begins = record {
        text = head ++ (value ++ s.begins.text);
        rest = s.begins.rest;
        parts = ap (λ (t : List ℕ). head ++ t) (whole ∙ sym (append_assoc value s.begins.text s.begins.rest)) ∙ sym (append_assoc head (value ++ s.begins.text) s.begins.rest);
        spells = copies m head value s.begins.text y ys number size s.begins.spells;
      };
    }

only_copies : (w n m : ℕ) (head behind : List ℕ) → IsNumber head (2 * m) → bytes_for w ≤ length behind → 0 < n → n ≤ m → Spelled w n (head ++ behind) (replicate n (number_of (take (bytes_for w) behind)))
only_copies w n m head behind number long some le =
    let value = take (bytes_for w) behind in
    let size : length value ≡ bytes_for w = omega (arith, long, length-take (bytes_for w) behind) in
    record {
      count = length-replicate n (number_of value);
      begins = record {
        text = head ++ value;
        rest = drop (bytes_for w) behind;
        parts = ap (λ (t : List ℕ). head ++ t) (sym (take-append-drop (bytes_for w) behind)) ∙ sym (append_assoc head value (drop (bytes_for w) behind));
        spells = last_copies m n head value number size some le;
      };
    }

more_groups : (w n g : ℕ) (head behind ys : List ℕ) → IsNumber head (2 * g + 1) → w * g ≤ length behind → 8 * g < n → Spelled w (n - 8 * g) (drop (w * g) behind) ys → Spelled w n (head ++ behind) (unpacked w (8 * g) (take (w * g) behind) ++ ys)
more_groups w n g head behind [] number long lt s = absurd (omega (arith, s.count, lt))
more_groups w n g head behind (y ∷ ys) number long lt s =
    let body = take (w * g) behind in
    let size : length body ≡ w * g = omega (arith, long, length-take (w * g) behind) in
    let whole : behind ≡ body ++ (s.begins.text ++ s.begins.rest) = sym (take-append-drop (w * g) behind) ∙ ap (λ (t : List ℕ). body ++ t) s.begins.parts in
    record {
      count = omega (arith, s.count, lt, length-append (unpacked w (8 * g) body) (y ∷ ys), length-digits (2 ^ w) (8 * g) (number_of body));
      begins = record {
        text = head ++ (body ++ s.begins.text);
        rest = s.begins.rest;
        parts = ap (λ (t : List ℕ). head ++ t) (whole ∙ sym (append_assoc body s.begins.text s.begins.rest)) ∙ sym (append_assoc head (body ++ s.begins.text) s.begins.rest);
        spells = groups g head body s.begins.text y ys number size s.begins.spells;
      };
    }

only_groups : (w n g : ℕ) (head behind : List ℕ) → IsNumber head (2 * g + 1) → 0 < n → n ≤ 8 * g → w * n ≤ 8 * length (take (w * g) behind) → Spelled w n (head ++ behind) (unpacked w n (take (w * g) behind))
only_groups w n g head behind number some le enough =
    let body = take (w * g) behind in
    record {
      count = length-digits (2 ^ w) n (number_of body);
      begins = record {
        text = head ++ body;
        rest = drop (w * g) behind;
        parts = ap (λ (t : List ℕ). head ++ t) (sym (take-append-drop (w * g) behind)) ∙ sym (append_assoc head body (drop (w * g) behind));
        spells = last_groups g n head body number some le enough (omega (arith, length-take (w * g) behind));
      };
    }

-- ---- reading back

copies_good : (w : ℕ) (others : Reader) (n m : ℕ) (head behind xs : List ℕ) → ((k : ℕ) (b ys : List ℕ) → others k b ≡ given ys → Spelled w k b ys) → IsNumber head (2 * m) → 0 < n → copies_at others w n m behind ≡ given xs → Spelled w n (head ++ behind) xs
copies_good w others n m head behind xs good number some e =
    elim (cases_lt (length behind) (bytes_for w)) [
      | inl short ↦ absurd (no_error [] xs (rw (lt-ltb (length behind) (bytes_for w) short) at e))
      | inr long ↦
          let e' = rw (le-ltb (length behind) (bytes_for w) long) at e in
          elim (cases_lt m n) [
            | inl lt ↦
                let value = number_of (take (bytes_for w) behind) in
                let e'' = rw (lt-ltb m n lt) at e' in
                let s = given_split (replicate m value) (others (n - m) (drop (bytes_for w) behind)) xs (ap (λ (t : List Item). t ++ others (n - m) (drop (bytes_for w) behind)) (given-replicate m value) ∙ e'') in
                put_front w n (head ++ behind) (replicate m value ++ s.0) xs (sym s.1) (more_copies w n m head behind s.0 number long lt (good (n - m) (drop (bytes_for w) behind) s.0 s.2))
            | inr le ↦
                let value = number_of (take (bytes_for w) behind) in
                let e'' = rw (le-ltb m n le) at e' in
                put_front w n (head ++ behind) (replicate n value) xs (sym (given_is (replicate n value) xs (given-replicate n value ∙ e''))) (only_copies w n m head behind number long some le)
          ]
    ]

pub mul-le-div : (n w m : ℕ) → n ≤ m / w → w * n ≤ m
mul-le-div n w m h =
    let le : n * w ≤ m / w * w = mul-le n w (m / w) w h (omega arith) in
    let whole : m / w * w + m % w ≡ m = div-add-mod' m w in
    omega (arith, le, whole)

groups_whole : (w g k : ℕ) (behind : List ℕ) → k ≡ standing w g (take (w * g) behind) → 8 * g ≤ k → (k ≡ 8 * g) × (w * g ≤ length behind)
groups_whole w g k behind is le =
    let all : k ≡ 8 * g = omega (arith, is, le) in
    let fits : 8 * g ≤ 8 * length (take (w * g) behind) / w = omega (arith, is, le) in
    let bits : w * (8 * g) ≤ 8 * length (take (w * g) behind) = mul-le-div (8 * g) w (8 * length (take (w * g) behind)) fits in
    (all, omega (arith, bits, length-take (w * g) behind))

groups_good : (w : ℕ) (others : Reader) (n g : ℕ) (head behind xs : List ℕ) → ((k : ℕ) (b ys : List ℕ) → others k b ≡ given ys → Spelled w k b ys) → IsNumber head (2 * g + 1) → 0 < n → groups_at others w n g behind ≡ given xs → Spelled w n (head ++ behind) xs
groups_good w others n g head behind xs good number some e = by_standing (standing w g body) refl e
  where
    body : List ℕ
    body = take (w * g) behind

    whole : (k : ℕ) → k ≡ 8 * g → w * g ≤ length behind → k < n → given (unpacked w k (take (w * g) behind)) ++ others (n - k) (drop (w * g) behind) ≡ given xs → Spelled w n (head ++ behind) xs
    whole k is long lt e =
        let e' : given (unpacked w (8 * g) (take (w * g) behind)) ++ others (n - 8 * g) (drop (w * g) behind) ≡ given xs = subst (λ (j : ℕ). given (unpacked w j (take (w * g) behind)) ++ others (n - j) (drop (w * g) behind) ≡ given xs) is e in
        let s = given_split (unpacked w (8 * g) (take (w * g) behind)) (others (n - 8 * g) (drop (w * g) behind)) xs e' in
        put_front w n (head ++ behind) (unpacked w (8 * g) (take (w * g) behind) ++ s.0) xs (sym s.1) (more_groups w n g head behind s.0 number long (omega (arith, lt, is)) (good (n - 8 * g) (drop (w * g) behind) s.0 s.2))

    by_standing : (k : ℕ) → k ≡ standing w g (take (w * g) behind) → groups_items others w n g k (take (w * g) behind) (drop (w * g) behind) ≡ given xs → Spelled w n (head ++ behind) xs
    by_standing k is e =
        elim (cases_lt k n) [
          | inl lt ↦
              let e' = rw (lt-ltb k n lt) at e in
              elim (cases_lt k (8 * g)) [
                | inl cut ↦
                    let e'' = rw (lt-ltb k (8 * g) cut) at e' in
                    let s = given_split (unpacked w k (take (w * g) behind)) (Err fault ∷ []) xs e'' in
                    absurd (no_error [] s.0 s.2)
                | inr le ↦
                    let f = groups_whole w g k behind is le in
                    whole k f.0 f.1 lt (rw (le-ltb k (8 * g) le) at e')
              ]
          | inr le ↦
              let e' = rw (le-ltb k n le) at e in
              let fits : n ≤ 8 * length (take (w * g) behind) / w = omega (arith, is, le) in
              let within : n ≤ 8 * g = omega (arith, is, le) in
              put_front w n (head ++ behind) (unpacked w n (take (w * g) behind)) xs (sym (given_is (unpacked w n (take (w * g) behind)) xs e')) (only_groups w n g head behind number some within (mul-le-div n w (8 * length (take (w * g) behind)) fits))
        ]

run_good : (w : ℕ) (others : Reader) (n : ℕ) (bytes xs : List ℕ) (head : Option (ℕ × List ℕ)) → head ≡ varint_at bytes → ((k : ℕ) (b ys : List ℕ) → others k b ≡ given ys → Spelled w k b ys) → 0 < n → run_at others w n head ≡ given xs → Spelled w n bytes xs
run_good w others n bytes xs None is good some e = absurd (no_error [] xs e)
run_good w others n bytes xs (Some head) is good some e =
    let s = number_stands bytes head.0 head.1 (sym is) in
    let place : (b : List ℕ) → b ≡ bytes → Spelled w n b xs → Spelled w n bytes xs = λ b q t. subst (λ (c : List ℕ). Spelled w n c xs) q t in
    place (s.0 ++ head.1) (sym s.1)
    (elim (cases_eq (head.0 % 2) 0) [
      | inl even ↦
          let twice : head.0 ≡ 2 * (head.0 / 2) = omega (arith, even) in
          copies_good w others n (head.0 / 2) s.0 head.1 xs good (subst (λ (m : ℕ). IsNumber s.0 m) twice s.2) some (rw (eq-eqb (head.0 % 2) 0 even) at e)
      | inr odd ↦
          let low : head.0 % 2 ≡ 1 = omega (arith, odd) in
          let twice : head.0 ≡ 2 * (head.0 / 2) + 1 = omega (arith, low) in
          groups_good w others n (head.0 / 2) s.0 head.1 xs good (subst (λ (m : ℕ). IsNumber s.0 m) twice s.2) some (rw (ne_eqb (head.0 % 2) 0 odd) at e)
    ])

none_spelled : (w : ℕ) (bytes xs : List ℕ) → [] ≡ given xs → Spelled w 0 bytes xs
none_spelled w bytes [] e = record { count = refl; begins = record { text = []; rest = bytes; parts = refl; spells = no_more } }
none_spelled w bytes (x ∷ xs) e = absurd (cc e)

no_items : (fuel w : ℕ) (bytes xs : List ℕ) → runs_items fuel w 0 bytes ≡ given xs → [] ≡ given xs
unfolding runs_items
no_items zero w bytes xs e = e
no_items (suc fuel) w bytes xs e = e

runs_good : (fuel w n : ℕ) (bytes xs : List ℕ) → runs_items fuel w n bytes ≡ given xs → Spelled w n bytes xs
unfolding runs_items
runs_good fuel w zero bytes xs e = none_spelled w bytes xs (no_items fuel w bytes xs e)
runs_good zero w (suc n) bytes xs e = absurd (no_error [] xs (rw (ne_eqb (suc n) 0 (λ q. omega (arith, q))) at e))
runs_good (suc fuel) w (suc n) bytes xs e =
    run_good w (runs_items fuel w) (suc n) bytes xs (varint_at bytes) refl (λ k b ys q. runs_good fuel w k b ys q) (omega arith) (rw (ne_eqb (suc n) 0 (λ q. omega (arith, q))) at e)

-- what is read without an error is spelled at the front
pub is_spelled : (w n : ℕ) (bytes xs : List ℕ) → hybrid w n bytes ≡ given xs → Spelled w n bytes xs
unfolding hybrid
is_spelled zero n bytes xs e =
    let is : xs ≡ replicate n 0 = given_is (replicate n 0) xs (given-replicate n 0 ∙ e) in
    record {
      count = ap length is ∙ length-replicate n 0;
      begins = record { text = []; rest = bytes; parts = refl; spells = subst (λ (ys : List ℕ). Runs 0 [] ys) (sym is) (no_bits n refl) };
    }
is_spelled (suc w) n bytes xs e = runs_good (length bytes) (suc w) n bytes xs (rw (ne_eqb (suc w) 0 (λ q. omega (arith, q))) at e)

-- what is spelled is read, and what is read is spelled
pub runs_read : (w n : ℕ) (bytes xs : List ℕ) → Spelled w n bytes xs ↔ (hybrid w n bytes ≡ given xs)
runs_read w n bytes xs = ((λ s. subst (λ (k : ℕ). hybrid w k bytes ≡ given xs) s.count (reads w bytes xs s.begins)), is_spelled w n bytes xs)
