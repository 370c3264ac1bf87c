-- How many bytes a plain value has.
use Rattle.std.proofs.Common.{◌≡◌, inl, inr, ℕ, suc, ◌+◌, ◌-◌, ◌*◌, ◌/◌, ◌<◌, ◌≤◌, ℤ, Bool, true, false, nat_lt, Option, Some, None, option_map, List, [], ◌∷◌, ◌++◌, map, length, take, drop, arith, ap, sym, ◌∙◌, length-append}
use Rattle.std.proofs.Math.Nat.{add-mul-div_left, div-eq_of_lt}
use Rattle.std.proofs.Math.Seq.{take-add}
use Rattle.std.proofs.lemmas.Bool.{cases_lt}
use Rattle.std.proofs.lemmas.List.{length-take, length-take-le, length-drop, take_at, drop_at, take-take}
use Rattle.shredding.specs.Slot.{number, bytes}
use Rattle.pq_files.specs.Plain.{IsPrefixed}
use Rattle.pq_numbers.specs.Texts.{number_of}
use Rattle.read_leaf.specs.Numbers.{loaded_value, plain_numbers, stored_numbers}
use Rattle.read_leaf.specs.Strings.{stored_strings, string_at}
use Rattle.read_leaf.proofs.PlainRead.{front-string}
use Rattle.read_leaf.proofs.Standing.{allowed, no-bytes, no-length, none-stand, refused, stands}
use Rattle.read_pieces.specs.Leaves.{BeginsOutside, BeginsWithValue, in_bytes}
use Rattle.read_walk.specs.Values.{Stored}

-- ---- numbers
pub number-none : (loaded : ℤ → Option ℤ) (spelled : List ℕ → ℤ) (size : ℕ) (text : List ℕ) → length text < size → stored_numbers loaded spelled size text ≡ []
number-none loaded spelled size text h = ap (λ (n : ℕ). map (loaded_value loaded) (plain_numbers spelled size n text)) (div-eq_of_lt h)

number-first : (loaded : ℤ → Option ℤ) (spelled : List ℕ → ℤ) (size : ℕ) (text : List ℕ) → 0 < size → size ≤ length text → stored_numbers loaded spelled size text ≡ loaded_value loaded (spelled (take size text)) ∷ stored_numbers loaded spelled size (drop size text)
number-first loaded spelled size text some h =
    let less : length (drop size text) ≡ length text - size = length-drop size text in
    let split : length text ≡ (length text - size) + size * 1 = omega (arith, h) in
    let count : length text / size ≡ suc (length (drop size text) / size) = ap (λ (n : ℕ). n / size) split ∙ (add-mul-div_left (length text - size) 1 some ∙ (plus-one ((length text - size) / size) ∙ ap (λ (n : ℕ). suc (n / size)) (sym less))) in
    ap (λ (n : ℕ). map (loaded_value loaded) (plain_numbers spelled size n text)) count
  where
    plus-one : (n : ℕ) → n + 1 ≡ suc n
    plus-one n = omega arith

pub number-value : (loaded : ℤ → Option ℤ) (spelled : List ℕ → ℤ) (size : ℕ) (text : List ℕ) (z : ℤ) → 0 < size → size ≤ length text → loaded (spelled (take size text)) ≡ Some z → BeginsWithValue (stored_numbers loaded spelled size) size text
number-value loaded spelled size text z some h e =
    let own = take size text in
    let whole : length own ≡ size = length-take-le size text h in
    record {
      within = h;
      «value» = number z;
      is = record {
        is = λ rest. (
            let front : take size (own ++ rest) ≡ own = take_at own rest size whole in
            let behind : drop size (own ++ rest) ≡ rest = drop_at own rest size whole in
            number-first loaded spelled size (own ++ rest) some (omega (arith, length-append own rest, whole))
            ∙ (ap (λ (s : List ℕ). loaded_value loaded (spelled s) ∷ stored_numbers loaded spelled size (drop size (own ++ rest))) front
            ∙ (ap (λ (s : List ℕ). loaded_value loaded (spelled own) ∷ stored_numbers loaded spelled size s) behind
            ∙ ap (λ (o : Option ℤ). option_map number o ∷ stored_numbers loaded spelled size rest) e)));
        least = λ n few. number-none loaded spelled size (take n own) (omega (arith, few, whole, length-take n own));
      };
    }

pub number-outside : (loaded : ℤ → Option ℤ) (spelled : List ℕ → ℤ) (size : ℕ) (text : List ℕ) → 0 < size → size ≤ length text → loaded (spelled (take size text)) ≡ None → BeginsOutside (stored_numbers loaded spelled size) text
number-outside loaded spelled size text some h e =
    (stored_numbers loaded spelled size (drop size text), number-first loaded spelled size text some h ∙ ap (λ (o : Option ℤ). option_map number o ∷ stored_numbers loaded spelled size (drop size text)) e)

-- ---- texts and byte strings
string-none : (allows : List ℕ → Bool) (text : List ℕ) → string_at text ≡ None → stored_strings allows text ≡ []
string-none allows text e = ap (map _) (none-stand text e)

pub string-short : (allows : List ℕ → Bool) (text : List ℕ) → length text < 4 → stored_strings allows text ≡ []
string-short allows text h = string-none allows text (no-length text h)

pub string-cut : (allows : List ℕ → Bool) (text : List ℕ) (n : ℕ) → 4 ≤ length text → n ≡ number_of (take 4 text) → length (drop 4 text) < n → stored_strings allows text ≡ []
string-cut allows text n h e k = string-none allows text (no-bytes text n h e k)

pub string-outside : (allows : List ℕ → Bool) (text : List ℕ) (n : ℕ) → 4 ≤ length text → n ≡ number_of (take 4 text) → n ≤ length (drop 4 text) → allows (take n (drop 4 text)) ≡ false → BeginsOutside (stored_strings allows) text
string-outside allows text n h e k no-value = (stored_strings allows (drop n (drop 4 text)), refused allows text (take n (drop 4 text)) (drop n (drop 4 text)) (stands text n h e k) no-value)

pub string-value : (allows : List ℕ → Bool) (text : List ℕ) (n : ℕ) → 4 ≤ length text → n ≡ number_of (take 4 text) → n ≤ length (drop 4 text) → allows (take n (drop 4 text)) ≡ true → BeginsWithValue (stored_strings allows) (4 + n) text
string-value allows text n h e k is-value =
    let own = take (4 + n) text in
    let s = take n (drop 4 text) in
    let parts : own ≡ take 4 text ++ s = take-add 4 n text in
    let size : length s ≡ n = length-take-le n (drop 4 text) k in
    let four : length (take 4 text) ≡ 4 = length-take-le 4 text h in
    let whole : length own ≡ 4 + n = omega (arith, ap length parts, length-append (take 4 text) s, size, four) in
    let prefixed : IsPrefixed own s = record { head = take 4 text; four = four; size = sym e ∙ sym size; parts = parts } in
    record {
      within = omega (arith, k, h, length-drop 4 text);
      «value» = bytes s;
      is = record {
        is = λ rest. allowed allows (own ++ rest) s rest (front-string own s rest prefixed) is-value;
        least = λ m few. elim (cases_lt m 4) [
          | inl short ↦ string-short allows (take m own) (omega (arith, short, length-take m own))
          | inr long ↦
              let head : take 4 (take m own) ≡ take 4 text = take-take 4 m own long ∙ (take-take 4 (4 + n) text (omega arith)) in
              string-cut allows (take m own) n (omega (arith, long, few, whole, length-take m own)) (e ∙ ap number_of (sym head)) (omega (arith, few, whole, length-take m own, length-drop 4 (take m own)))
        ];
      };
    }

pub strings-own : (allows : List ℕ → Bool) → in_bytes (stored_strings allows) ≡ true
strings-own allows = ap (λ (xs : List Stored). nat_lt (length xs) 2) (string-short allows (0 ∷ []) (omega arith))
