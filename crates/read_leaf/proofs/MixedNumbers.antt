-- Plain numbers among nulls.
use Rattle.std.proofs.Common.{◌≡◌, ℕ, zero, suc, inl, inr, bit_and, ◌+◌, ◌-◌, ◌*◌, ◌/◌, ◌%◌, ◌^◌, ◌<◌, ◌≤◌, ◌==◌, ℤ, Bool, true, false, Option, Some, None, List, [], ◌∷◌, ◌++◌, map, length, take, drop, refl, arith, ap, sym, subst, ◌∙◌, append-nil, append_assoc, length-append}
use Rattle.std.specs.Int.{bit_at, w64, trailing_zeros}
use Rattle.std.proofs.lemmas.Bool.{cases_lt}
use Rattle.std.specs.Int.Bits.{and_self}
use Rattle.std.proofs.lemmas.Nat.{shr-shr, and_shr}
use Rattle.std.proofs.lemmas.Nat.Bits.{bit_at_lowest, bit_at-suc, bit_at-zero, bit_at_and, bit_at-trailing_zeros}
use Rattle.std.proofs.lemmas.List.{map-append, length-map}
use Rattle.columns_core.specs.Bits.{word_bits}
use Rattle.shredding.specs.Slot.{Value, number, Slot, null, value}
use Rattle.read_walk.specs.Values.{DecodesMixed, ones, spread}
use Rattle.read_leaf.specs.Numbers.{plain_numbers, stored_numbers, number_slots, TookOne, TookMixed, OneIsOutside}
use Rattle.read_leaf.proofs.NumberSlots.{slots-more, taken-front}
use Rattle.read_leaf.proofs.Reading.{IsReading, nothing-read, one-read, one-outside, enough-left}
use Rattle.read_leaf.proofs.SetBits.{length-bits, next-bit, ones-append, spread-append}

pub take_on : {X : Type 0} (xs : List X) (i n : ℕ) → take (i + n) xs ≡ take i xs ++ take n (drop i xs)
take_on xs zero n = let e : 0 + n ≡ n = omega arith in ap (λ (k : ℕ). take k xs) e
take_on {X} [] (suc i) n = nothing (suc i + n) ∙ sym (nothing n)
  where
    nothing : (k : ℕ) → ◌≡◌ {A = List X} (take k []) []
    nothing zero = refl
    nothing (suc k) = refl
take_on {X} (x ∷ xs) (suc i) n =
    let e : suc i + n ≡ suc (i + n) = omega arith in
    ap (λ (k : ℕ). take k (x ∷ xs)) e ∙ ap (λ (ys : List X). x ∷ ys) (take_on xs i n)

-- a word's bits from a place on
bit-shifted : (n i j : ℕ) → bit_at (n / 2 ^ i) j ≡ bit_at n (i + j)
bit-shifted n i j = ap (λ (k : ℕ). k % 2) (shr-shr n i j)

-- a word without its lowest set bit
pub lowest-cleared : (t n : ℕ) → ((j : ℕ) → j < t → bit_at n j ≡ 0) → bit_at n t ≡ 1 → (bit_and n (n - 1) / 2 ^ (t + 1) ≡ n / 2 ^ (t + 1)) × ((j : ℕ) → j < t + 1 → bit_at (bit_and n (n - 1)) j ≡ 0)
lowest-cleared zero n below one =
    let odd : n % 2 ≡ 1 = sym (bit_at_lowest n) ∙ one in
    let half : (n - 1) / 2 ≡ n / 2 = omega (arith, odd) in
    let even : bit_at (n - 1) 0 ≡ 0 = bit_at_lowest (n - 1) ∙ omega (arith, odd) in
    let first : bit_at (bit_and n (n - 1)) 0 ≡ 0 = bit_at_and n (n - 1) 0 ∙ omega (arith, even) in (
      and_shr n (n - 1) 1 ∙ (ap (bit_and (n / 2)) half ∙ and_self (n / 2)),
      λ j h. let z : j ≡ 0 = omega (arith, h) in rw z first,
    )
lowest-cleared (suc t) n below one =
    let even : n % 2 ≡ 0 = sym (bit_at_lowest n) ∙ below 0 (omega arith) in
    let high : bit_at (n / 2) t ≡ 1 = sym (bit_at-suc n t) ∙ one in
    let some : 0 < n / 2 = elim (cases_lt 0 (n / 2)) [
      | inl h ↦ h
      | inr h ↦ let z : n / 2 ≡ 0 = omega (arith, h) in absurd (omega (arith, high, ap (λ (k : ℕ). bit_at k t) z ∙ bit_at-zero t))
    ] in
    let less : (n - 1) / 2 ≡ n / 2 - 1 = omega (arith, even, some) in
    let half : bit_and n (n - 1) / 2 ≡ bit_and (n / 2) (n / 2 - 1) = and_shr n (n - 1) 1 ∙ ap (bit_and (n / 2)) less in
    let rest = lowest-cleared t (n / 2) (λ j h. sym (bit_at-suc n j) ∙ below (suc j) (omega (arith, h))) high in
    let place : 1 + (t + 1) ≡ suc t + 1 = omega arith in
    let first : bit_at (bit_and n (n - 1)) 0 ≡ 0 = bit_at_and n (n - 1) 0 ∙ omega (arith, below 0 (omega arith)) in (
      ap (λ (k : ℕ). bit_and n (n - 1) / 2 ^ k) (sym place) ∙ (sym (shr-shr (bit_and n (n - 1)) 1 (t + 1)) ∙ (ap (λ (k : ℕ). k / 2 ^ (t + 1)) half ∙ (rest.0 ∙ (shr-shr n 1 (t + 1) ∙ ap (λ (k : ℕ). n / 2 ^ k) place)))),
      by first half rest.1,
    )
  where
    by : bit_at (bit_and n (n - 1)) 0 ≡ 0 → bit_and n (n - 1) / 2 ≡ bit_and (n / 2) (n / 2 - 1) → ((j : ℕ) → j < t + 1 → bit_at (bit_and (n / 2) (n / 2 - 1)) j ≡ 0) → (j : ℕ) → j < suc t + 1 → bit_at (bit_and n (n - 1)) j ≡ 0
    by first half others zero h = first
    by first half others (suc j) h = bit_at-suc (bit_and n (n - 1)) j ∙ (ap (λ (k : ℕ). bit_at k j) half ∙ others j (omega (arith, h)))

module _ (loaded : ℤ → Option ℤ) (spelled : List ℕ → ℤ) (size : ℕ) where
  -- so many slots made, of n; the word has the bits of the others
  pub record IsMixing (valid n i word : ℕ) (bytes rest : List ℕ) (xs : List ℤ) : Type 0 where
    pub done : List Bool
    pub numbers : List ℤ
    pub all : done ++ word_bits word (n - i) ≡ word_bits valid n
    pub made : length done ≡ i
    pub even : length xs ≡ i
    pub reading : IsReading loaded spelled size (ones done) (ones (word_bits valid n)) bytes rest [] numbers
    pub stand : number_slots xs done ≡ spread done (map number numbers)

  pub mixing-none : (valid n : ℕ) (bytes : List ℕ) → IsMixing valid n 0 valid bytes bytes []
  mixing-none valid n bytes =
      let whole : n - 0 ≡ n = omega arith in
      record {
        done = [];
        numbers = [];
        all = ap (word_bits valid) whole;
        made = refl;
        even = refl;
        reading = nothing-read loaded spelled size (ones (word_bits valid n)) bytes [];
        stand = refl;
      }

  -- one is left to be read
  pub one-called : (valid n i word : ℕ) (bytes rest : List ℕ) (xs : List ℤ) → i < n → (word % 2 == 1) ≡ true → (m : IsMixing valid n i word bytes rest xs) → ones m.done < ones (word_bits valid n)
  one-called valid n i word bytes rest xs l e m =
      let next : (m.done ++ true ∷ []) ++ word_bits (word / 2) (n - (i + 1)) ≡ word_bits valid n = subst (λ (b : Bool). (m.done ++ b ∷ []) ++ word_bits (word / 2) (n - (i + 1)) ≡ word_bits valid n) e (next-bit valid n i word m.done l m.all) in
      let all = sym (ap ones next) ∙ ones-append (m.done ++ true ∷ []) (word_bits (word / 2) (n - (i + 1))) in
      omega (arith, all, ones-append m.done (true ∷ []))

  pub mixing-enough : (valid n i word : ℕ) (bytes rest : List ℕ) (xs : List ℤ) → i < n → size * ones (word_bits valid n) ≤ length bytes → IsMixing valid n i word bytes rest xs → (word % 2 == 1) ≡ true → size ≤ length rest
  mixing-enough valid n i word bytes rest xs l enough m e = enough-left loaded spelled size (ones m.done) (ones (word_bits valid n)) bytes rest (one-called valid n i word bytes rest xs l e m) enough m.reading.behind

  pub mixing-outside : (valid n i word : ℕ) (bytes rest : List ℕ) (xs : List ℤ) → i < n → IsMixing valid n i word bytes rest xs → (word % 2 == 1) ≡ true → loaded (spelled (take size rest)) ≡ None → OneIsOutside loaded spelled size (ones (word_bits valid n)) bytes
  mixing-outside valid n i word bytes rest xs l m e none = one-outside loaded spelled size (ones m.done) (ones (word_bits valid n)) bytes rest [] m.numbers (one-called valid n i word bytes rest xs l e m) m.reading none

  pub mixing-more : (valid n i word : ℕ) (bytes rest rest' : List ℕ) (xs xs' : List ℤ) (z : ℤ) → i < n → IsMixing valid n i word bytes rest xs → TookOne loaded spelled size (word % 2 == 1) rest rest' z → xs' ≡ xs ++ z ∷ [] → IsMixing valid n (i + 1) (word / 2) bytes rest' xs'
  mixing-more valid n i word bytes rest rest' xs xs' z l m t p = by (word % 2 == 1) refl t
    where
      even : length xs' ≡ i + 1
      even = ap length p ∙ length-append xs (z ∷ []) ∙ omega (arith, m.even)

      made : (b : Bool) → length (m.done ++ b ∷ []) ≡ i + 1
      made b = length-append m.done (b ∷ []) ∙ omega (arith, m.made)

      slots : (b : Bool) → number_slots xs' (m.done ++ b ∷ []) ≡ number_slots xs m.done ++ number_slots (z ∷ []) (b ∷ [])
      slots b = ap (λ (t : List ℤ). number_slots t (m.done ++ b ∷ [])) p ∙ slots-more xs (z ∷ []) m.done (b ∷ []) (m.even ∙ sym m.made)

      named : length (map number m.numbers) ≡ ones m.done
      named = length-map m.numbers number ∙ (ap length m.reading.pushed ∙ m.reading.count)

      by : (b : Bool) → (word % 2 == 1) ≡ b → TookOne loaded spelled size b rest rest' z → IsMixing valid n (i + 1) (word / 2) bytes rest' xs'
      by true e t =
          let more : ones (m.done ++ true ∷ []) ≡ ones m.done + 1 = ones-append m.done (true ∷ []) in
          record {
            done = m.done ++ true ∷ [];
            numbers = m.numbers ++ z ∷ [];
            all = subst (λ (b : Bool). (m.done ++ b ∷ []) ++ word_bits (word / 2) (n - (i + 1)) ≡ word_bits valid n) e (next-bit valid n i word m.done l m.all);
            made = made true;
            even = even;
            reading = subst (λ (k : ℕ). IsReading loaded spelled size k (ones (word_bits valid n)) bytes rest' [] (m.numbers ++ z ∷ [])) (sym more) (one-read loaded spelled size (ones m.done) (ones (word_bits valid n)) bytes rest rest' [] m.numbers (m.numbers ++ z ∷ []) z (one-called valid n i word bytes rest xs l e m) m.reading t.0 t.1 refl);
            stand = slots true ∙ (ap (λ (t : List Slot). t ++ value (number z) ∷ []) m.stand ∙ (sym (spread-append m.done (true ∷ []) (map number m.numbers) (number z ∷ []) named) ∙ ap (spread (m.done ++ true ∷ [])) (sym (map-append number m.numbers (z ∷ [])))));
          }
      by false e t =
          let more : ones (m.done ++ false ∷ []) ≡ ones m.done = ones-append m.done (false ∷ []) ∙ omega arith in
          record {
            done = m.done ++ false ∷ [];
            numbers = m.numbers;
            all = subst (λ (b : Bool). (m.done ++ b ∷ []) ++ word_bits (word / 2) (n - (i + 1)) ≡ word_bits valid n) e (next-bit valid n i word m.done l m.all);
            made = made false;
            even = even;
            reading = subst (λ (r : List ℕ). IsReading loaded spelled size (ones (m.done ++ false ∷ [])) (ones (word_bits valid n)) bytes r [] m.numbers) (sym t) (subst (λ (k : ℕ). IsReading loaded spelled size k (ones (word_bits valid n)) bytes rest [] m.numbers) (sym more) m.reading);
            stand = slots false ∙ (ap (λ (t : List Slot). t ++ null ∷ []) m.stand ∙ (sym (spread-append m.done (false ∷ []) (map number m.numbers) [] named) ∙ ap (spread (m.done ++ false ∷ [])) (append-nil (map number m.numbers))));
          }

  pub mixing-done : (valid n i word : ℕ) (bytes rest : List ℕ) (xs : List ℤ) → i ≡ n → IsMixing valid n i word bytes rest xs → TookMixed loaded spelled size (word_bits valid n) bytes rest [] xs
  mixing-done valid n i word bytes rest xs e m =
      let none : n - i ≡ 0 = omega (arith, e) in
      let all : m.done ≡ word_bits valid n = sym (append-nil m.done) ∙ (ap (λ (k : ℕ). m.done ++ word_bits word k) (sym none) ∙ m.all) in
      let whole : ones m.done ≡ ones (word_bits valid n) = ap ones all in
      let last : ones (word_bits valid n) - ones m.done ≡ 0 = omega (arith, whole) in
      record {
        numbers = m.numbers;
        took = record {
          numbers = m.reading.numbers;
          count = m.reading.count ∙ whole;
          are = m.reading.are ∙ (ap (λ (k : ℕ). map Some m.reading.numbers ++ map loaded (plain_numbers spelled size k rest)) last ∙ append-nil (map Some m.reading.numbers));
          pushed = m.reading.pushed;
          behind = m.reading.behind ∙ ap (λ (k : ℕ). drop (size * k) bytes) whole;
        };
        among = xs;
        even = m.even ∙ (e ∙ sym (length-bits valid n));
        stand = ap (number_slots xs) (sym all) ∙ (m.stand ∙ ap (λ (bs : List Bool). spread bs (map number m.numbers)) all);
        pushed = refl;
      }

  took-none : (b : Bool) (rest : List ℕ) (z : ℤ) → b ≡ false → TookOne loaded spelled size b rest rest z
  took-none b rest z e = rw e refl

  took-one : (b : Bool) (rest rest' : List ℕ) (z : ℤ) → b ≡ true → loaded (spelled (take size rest)) ≡ Some z → rest' ≡ drop size rest → TookOne loaded spelled size b rest rest' z
  took-one b rest rest' z e l r = rw e (l, r)

  -- slots of which no bit is set
  pub mixing-skips : (valid n k i word : ℕ) (bytes rest : List ℕ) (xs ys : List ℤ) → i + k ≤ n → length ys ≡ k → ((j : ℕ) → j < k → bit_at word j ≡ 0) → IsMixing valid n i word bytes rest xs → IsMixing valid n (i + k) (word / 2 ^ k) bytes rest (xs ++ ys)
  mixing-skips valid n zero i word bytes rest xs [] l e h m =
      let a : i + 0 ≡ i = omega arith in
      let b : word / 2 ^ 0 ≡ word = omega arith in
      rw (a, b, append-nil xs) m
  mixing-skips valid n zero i word bytes rest xs (y ∷ ys) l e h m = absurd (omega (arith, e))
  mixing-skips valid n (suc k) i word bytes rest xs [] l e h m = absurd (omega (arith, e))
  mixing-skips valid n (suc k) i word bytes rest xs (y ∷ ys) l e h m =
      let low : (word % 2 == 1) ≡ false = ap (λ (r : ℕ). r == 1) (sym (bit_at_lowest word) ∙ h 0 (omega arith)) in
      let one = mixing-more valid n i word bytes rest rest xs (xs ++ y ∷ []) y (omega (arith, l)) m (took-none (word % 2 == 1) rest y low) refl in
      let more = mixing-skips valid n k (i + 1) (word / 2) bytes rest (xs ++ y ∷ []) ys (omega (arith, l)) (omega (arith, e)) (λ j b. sym (bit_at-suc word j) ∙ h (suc j) (omega (arith, b))) one in
      let c : i + 1 + k ≡ i + suc k = omega arith in
      let p : 1 + k ≡ suc k = omega arith in
      let d : word / 2 / 2 ^ k ≡ word / 2 ^ suc k = shr-shr word 1 k ∙ ap (λ (j : ℕ). word / 2 ^ j) p in
      rw (c, d, append_assoc xs (y ∷ []) ys) at more

  -- up to the next bit that is set
  module _ (valid n i word gap : ℕ) (bytes rest : List ℕ) (xs ys : List ℤ) (one : bit_at word gap ≡ 1) (zeros : (j : ℕ) → j < gap → bit_at word j ≡ 0) (l : i + gap < n) (e : length ys ≡ gap) (m : IsMixing valid n i word bytes rest xs) where
    at-bit : IsMixing valid n (i + gap) (word / 2 ^ gap) bytes rest (xs ++ ys)
    at-bit = mixing-skips valid n gap i word bytes rest xs ys (omega (arith, l)) e zeros m

    odd : (word / 2 ^ gap % 2 == 1) ≡ true
    odd = ap (λ (r : ℕ). r == 1) one

    set-enough : size * ones (word_bits valid n) ≤ length bytes → size ≤ length rest
    set-enough enough = mixing-enough valid n (i + gap) (word / 2 ^ gap) bytes rest (xs ++ ys) l enough at-bit odd

    set-outside : loaded (spelled (take size rest)) ≡ None → OneIsOutside loaded spelled size (ones (word_bits valid n)) bytes
    set-outside none = mixing-outside valid n (i + gap) (word / 2 ^ gap) bytes rest (xs ++ ys) l at-bit odd none

    set-more : (rest' : List ℕ) (xs' : List ℤ) (z : ℤ) → loaded (spelled (take size rest)) ≡ Some z → rest' ≡ drop size rest → xs' ≡ (xs ++ ys) ++ z ∷ [] → IsMixing valid n (i + gap + 1) (word / 2 ^ gap / 2) bytes rest' xs'
    set-more rest' xs' z one' r p = mixing-more valid n (i + gap) (word / 2 ^ gap) bytes rest rest' (xs ++ ys) xs' z l at-bit (took-one (word / 2 ^ gap % 2 == 1) rest rest' z odd one' r) p

  -- no bit is left
  pub mixing-rest : (valid n i word : ℕ) (bytes rest : List ℕ) (xs ys zs : List ℤ) → i ≤ n → length ys ≡ n - i → ((j : ℕ) → j < n - i → bit_at word j ≡ 0) → zs ≡ xs ++ ys → IsMixing valid n i word bytes rest xs → TookMixed loaded spelled size (word_bits valid n) bytes rest [] zs
  mixing-rest valid n i word bytes rest xs ys zs l e h p m = rw p (mixing-done valid n (i + (n - i)) (word / 2 ^ (n - i)) bytes rest (xs ++ ys) (omega (arith, l)) (mixing-skips valid n (n - i) i word bytes rest xs ys (omega (arith, l)) e h m))

  -- The set bits that are left stand at the places that they call for, and none below those that were made.
  pub record IsFilling (valid n bits : ℕ) (bytes rest : List ℕ) (front : ℕ → List ℤ) : Type 0 where
    pub i : ℕ
    pub within : i ≤ n
    pub is : IsMixing valid n i (bits / 2 ^ i) bytes rest (front i)
    pub clear : (j : ℕ) → j < i → bit_at bits j ≡ 0

  pub filling-none : (valid n : ℕ) (bytes : List ℕ) (front : ℕ → List ℤ) → front 0 ≡ [] → IsFilling valid n valid bytes bytes front
  filling-none valid n bytes front e =
      let whole : valid / 2 ^ 0 ≡ valid = omega arith in
      record {
        i = 0;
        within = omega arith;
        is = rw (whole, e) (mixing-none valid n bytes);
        clear = λ j h. absurd (omega (arith, h));
      }

  module _ (valid n bits t : ℕ) (bytes rest : List ℕ) (front : ℕ → List ℤ) (ys : List ℤ) (some : 0 < bits) (fits : bits < 2 ^ 64) (at : t ≡ trailing_zeros w64 bits) (l : t < n) (f : IsFilling valid n bits bytes rest front) (made : length ys ≡ t - f.i) where
    lowest : bit_at bits t ≡ 1
    lowest = rw at ((bit_at-trailing_zeros w64 bits some fits).1)

    below : (j : ℕ) → j < t → bit_at bits j ≡ 0
    below j h = (bit_at-trailing_zeros w64 bits some fits).2 j (rw at at h)

    pub fill-over : f.i ≤ t
    fill-over = elim (cases_lt t f.i) [
      | inl h ↦ absurd (omega (arith, lowest, f.clear t h))
      | inr h ↦ h
    ]

    here : f.i + (t - f.i) ≡ t
    here = omega (arith, fill-over)

    one : bit_at (bits / 2 ^ f.i) (t - f.i) ≡ 1
    one = bit-shifted bits f.i (t - f.i) ∙ (ap (bit_at bits) here ∙ lowest)

    zeros : (j : ℕ) → j < t - f.i → bit_at (bits / 2 ^ f.i) j ≡ 0
    zeros j h = bit-shifted bits f.i j ∙ below (f.i + j) (omega (arith, h, fill-over))

    inside : f.i + (t - f.i) < n
    inside = omega (arith, here, l)

    pub fill-enough : size * ones (word_bits valid n) ≤ length bytes → size ≤ length rest
    fill-enough enough = set-enough valid n f.i (bits / 2 ^ f.i) (t - f.i) bytes rest (front f.i) ys one zeros inside made f.is enough

    pub fill-outside : loaded (spelled (take size rest)) ≡ None → OneIsOutside loaded spelled size (ones (word_bits valid n)) bytes
    fill-outside none = set-outside valid n f.i (bits / 2 ^ f.i) (t - f.i) bytes rest (front f.i) ys one zeros inside made f.is none

    pub fill-more : (rest' : List ℕ) (front' : ℕ → List ℤ) (z : ℤ) → loaded (spelled (take size rest)) ≡ Some z → rest' ≡ drop size rest → front' (t + 1) ≡ (front f.i ++ ys) ++ z ∷ [] → IsFilling valid n (bit_and bits (bits - 1)) bytes rest' front'
    fill-more rest' front' z is r p =
        let next = set-more valid n f.i (bits / 2 ^ f.i) (t - f.i) bytes rest (front f.i) ys one zeros inside made f.is rest' (front' (t + 1)) z is r p in
        let place : f.i + (t - f.i) + 1 ≡ t + 1 = omega (arith, here) in
        let word : bits / 2 ^ f.i / 2 ^ (t - f.i) / 2 ≡ bit_and bits (bits - 1) / 2 ^ (t + 1) = ap (λ (k : ℕ). k / 2) (shr-shr bits f.i (t - f.i) ∙ ap (λ (k : ℕ). bits / 2 ^ k) here) ∙ (shr-shr bits t 1 ∙ sym ((lowest-cleared t bits below lowest).0)) in
        record {
          i = t + 1;
          within = omega (arith, l);
          is = subst (λ (w : ℕ). IsMixing valid n (t + 1) w bytes rest' (front' (t + 1))) word (subst (λ (k : ℕ). IsMixing valid n k (bits / 2 ^ f.i / 2 ^ (t - f.i) / 2) bytes rest' (front' (t + 1))) place next);
          clear = (lowest-cleared t bits below lowest).1;
        }

  -- no bit is left below the last place
  pub fill-rest : (valid n bits : ℕ) (bytes rest : List ℕ) (front : ℕ → List ℤ) (ys zs : List ℤ) (f : IsFilling valid n bits bytes rest front) → length ys ≡ n - f.i → ((j : ℕ) → j < n → bit_at bits j ≡ 0) → zs ≡ front f.i ++ ys → TookMixed loaded spelled size (word_bits valid n) bytes rest [] zs
  fill-rest valid n bits bytes rest front ys zs f made none p = mixing-rest valid n f.i (bits / 2 ^ f.i) bytes rest (front f.i) ys zs f.within made (λ j h. bit-shifted bits f.i j ∙ none (f.i + j) (omega (arith, h, f.within))) p f.is

  -- what is decoded
  pub mixed-decoded : (bits : List Bool) (bytes rest : List ℕ) (zs zs' : List ℤ) (bs bs' : List Bool) → 0 < size → ones bits ≤ length bytes / size → length zs ≡ length bs → TookMixed loaded spelled size bits bytes rest zs zs' → bs' ≡ bs ++ bits → DecodesMixed bits (stored_numbers loaded spelled size bytes) (stored_numbers loaded spelled size rest) (number_slots zs bs) (number_slots zs' bs')
  mixed-decoded bits bytes rest zs zs' bs bs' some h even t b =
      let same : map number t.took.numbers ≡ map number t.numbers = ap (map number) (sym t.took.pushed) in
      record {
        values = map number t.numbers;
        size = length-map t.numbers number ∙ (ap length t.took.pushed ∙ t.took.count);
        taken = taken-front loaded spelled size (ones bits) bytes rest [] t.numbers some h t.took ∙ ap (λ (vs : List Value). map Some vs ++ stored_numbers loaded spelled size rest) same;
        pushed = ap (λ (cs : List Bool). number_slots zs' cs) b ∙ (ap (λ (ys : List ℤ). number_slots ys (bs ++ bits)) t.pushed ∙ (slots-more zs t.among bs bits even ∙ ap (λ (u : List Slot). number_slots zs bs ++ u) t.stand));
      }
