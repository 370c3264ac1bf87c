-- What bytes begin with is read first.
use Rattle.std.proofs.Common.{◌≡◌, ℕ, zero, suc, ◌+◌, ◌*◌, ◌/◌, ◌<◌, ◌≤◌, ℤ, Some, None, List, [], ◌∷◌, ◌++◌, map, length, take, drop, refl, arith, ap, sym, ◌∙◌, append_assoc, length-append, lit≤, inl, inr}
use Rattle.std.proofs.Math.Nat.{mul-div-le, mul-le-mul_left}
use Rattle.std.proofs.Math.Seq.{take-append_seam, drop-append_seam}
use Rattle.std.proofs.lemmas.Bool.{cases_lt}
use Rattle.std.proofs.lemmas.Nat.{le-div}
use Rattle.std.proofs.lemmas.List.{take-append-drop, length-take, length-drop}
use Rattle.shredding.specs.Slot.{number, bytes}
use Rattle.pq_numbers.specs.Texts.{number_of, Begins}
use Rattle.pq_tree.specs.Physical.{Physical, int32, int64, byte_array}
use Rattle.pq_files.specs.Plain.{IsOne, InARow}
use Rattle.read_leaf.specs.Numbers.{plain_numbers, all_numbers}
use Rattle.read_leaf.specs.PlainValues.{spelled_32, spelled_64, FrontsAreRead}
use Rattle.read_leaf.specs.Strings.{string_at, all_strings}
use Rattle.read_leaf.proofs.PlainRead.{front-string}
use Rattle.read_leaf.proofs.Standing.{no-length, no-bytes, stands, none-stand, one-stands}

-- bytes that begin with the first part of others begin with the whole, and end with the rest
seam : (first others rest text : List ℕ) → text ≡ (first ++ others) ++ rest → text ≡ first ++ (others ++ rest)
seam first others rest text e = e ∙ append_assoc first others rest

-- ---- numbers
module _ (p : Physical) (spelled : List ℕ → ℤ) (size : ℕ) (some : 0 < size) (to : (a : List ℕ) (z : ℤ) → IsOne p a (number z) → (length a ≡ size) × (z ≡ spelled a)) (from : (a : List ℕ) (z : ℤ) → length a ≡ size → z ≡ spelled a → IsOne p a (number z)) where
  counted : (n : ℕ) (text : List ℕ) → length (plain_numbers spelled size n text) ≡ n
  counted zero text = refl
  counted (suc n) text = ap suc (counted n (drop size text))

  first-numbers : (n m : ℕ) (text : List ℕ) → n ≤ m → take n (plain_numbers spelled size m text) ≡ plain_numbers spelled size n text
  first-numbers zero m text h = refl
  first-numbers (suc n) zero text h = absurd (omega (arith, h))
  first-numbers (suc n) (suc m) text h = ap (λ (zs : List ℤ). spelled (take size text) ∷ zs) (first-numbers n m (drop size text) (omega (arith, h)))

  read : (zs : List ℤ) (text front rest : List ℕ) → text ≡ front ++ rest → InARow p front (map number zs) → (size * length zs ≤ length text) × (plain_numbers spelled size (length zs) text ≡ zs)
  read [] text front rest e h = (omega arith, refl)
  read (z ∷ zs) text front rest e h =
      let one = to h.0 z h.2 in
      let parts = seam h.0 h.1 rest text (e ∙ ap (λ (t : List ℕ). t ++ rest) h.4) in
      let head : take size text ≡ h.0 = ap (take size) parts ∙ (ap (λ n. take n (h.0 ++ (h.1 ++ rest))) (sym one.0) ∙ take-append_seam h.0 (h.1 ++ rest)) in
      let tail : drop size text ≡ h.1 ++ rest = ap (drop size) parts ∙ (ap (λ n. drop n (h.0 ++ (h.1 ++ rest))) (sym one.0) ∙ drop-append_seam h.0 (h.1 ++ rest)) in
      let others = read zs (drop size text) h.1 rest tail h.3 in
      let more : size * suc (length zs) ≡ size + size * length zs = omega arith in
      let long : length text ≡ length h.0 + length (h.1 ++ rest) = ap length parts ∙ length-append h.0 (h.1 ++ rest) in (
        omega (arith, more, others.0, ap length tail, long, one.0),
        rw (head, others.1) (ap (λ (y : ℤ). y ∷ zs) (sym one.1)),
      )

  begins : (zs : List ℤ) (text : List ℕ) → size * length zs ≤ length text → plain_numbers spelled size (length zs) text ≡ zs → Begins (InARow p) text (map number zs)
  begins [] text h e = record { text = []; rest = text; parts = refl; spells = refl }
  begins (z ∷ zs) text h e =
      let more : size * suc (length zs) ≡ size + size * length zs = omega arith in
      let first : spelled (take size text) ≡ z = cc in
      let rest : plain_numbers spelled size (length zs) (drop size text) ≡ zs = cc in
      let others = begins zs (drop size text) (omega (arith, length-drop size text, more, h)) rest in
      record {
        text = take size text ++ others.text;
        rest = others.rest;
        parts = sym (take-append-drop size text) ∙ (ap (λ (t : List ℕ). take size text ++ t) others.parts ∙ sym (append_assoc (take size text) others.text others.rest));
        spells = (take size text, others.text, from (take size text) z (length-take size text ∙ omega (arith, h, more)) (sym first), others.spells, refl);
      }

  pub fore : (text : List ℕ) (zs : List ℤ) → Begins (InARow p) text (map number zs) → take (length zs) (all_numbers spelled size text) ≡ zs
  fore text zs b =
      let r = read zs text b.text b.rest b.parts b.spells in
      let turned : length zs * size ≤ length text = omega (arith, r.0) in
      first-numbers (length zs) (length text / size) text (le-div (length zs) (length text) size some turned) ∙ r.1

  pub back : (text : List ℕ) (zs : List ℤ) → take (length zs) (all_numbers spelled size text) ≡ zs → Begins (InARow p) text (map number zs)
  back text zs e =
      let q = length text / size in
      let few : length zs ≤ q = omega (arith, ap length e, length-take (length zs) (plain_numbers spelled size q text), counted q text) in
      let enough : size * length zs ≤ size * q = mul-le-mul_left size few in
      begins zs text (omega (arith, enough, mul-div-le (length text) size)) (sym (first-numbers (length zs) q text few) ∙ e)

-- ---- strings
read-strings : (ss : List (List ℕ)) (text front rest : List ℕ) → text ≡ front ++ rest → InARow byte_array front (map bytes ss) → take (length ss) (all_strings text) ≡ ss
read-strings [] text front rest e h = refl
read-strings (s ∷ ss) text front rest e h =
    let parts = seam h.0 h.1 rest text (e ∙ ap (λ (t : List ℕ). t ++ rest) h.4) in
    let stand : string_at text ≡ Some (s, h.1 ++ rest) = ap string_at parts ∙ front-string h.0 s (h.1 ++ rest) h.2 in
    rw (one-stands text s (h.1 ++ rest) stand) (ap (λ (t : List (List ℕ)). s ∷ t) (read-strings ss (h.1 ++ rest) h.1 rest refl h.3))

none-read : (s : List ℕ) (ss : List (List ℕ)) (text : List ℕ) → string_at text ≡ None → take (suc (length ss)) (all_strings text) ≡ s ∷ ss → ⊥
none-read s ss text n e = let k = ap (take (suc (length ss))) (sym (none-stand text n)) ∙ e in cc

begins-strings : (ss : List (List ℕ)) (text : List ℕ) → take (length ss) (all_strings text) ≡ ss → Begins (InARow byte_array) text (map bytes ss)
begins-strings [] text e = record { text = []; rest = text; parts = refl; spells = refl }
begins-strings (s ∷ ss) text e = elim (cases_lt (length text) 4) [
  | inl few ↦ absurd (none-read s ss text (no-length text few) e)
  | inr some ↦ elim (cases_lt (length (drop 4 text)) (number_of (take 4 text))) [
    | inl cut ↦ absurd (none-read s ss text (no-bytes text (number_of (take 4 text)) some refl cut) e)
    | inr whole ↦
        let n = number_of (take 4 text) in
        let rest = drop n (drop 4 text) in
        let e' = ap (take (suc (length ss))) (sym (one-stands text (take n (drop 4 text)) rest (stands text n some refl whole))) ∙ e in
        let first : take n (drop 4 text) ≡ s = cc in
        let behind : take (length ss) (all_strings rest) ≡ ss = cc in
        let size : length s ≡ n = ap length (sym first) ∙ (length-take n (drop 4 text) ∙ omega (arith, whole)) in
        let parts : text ≡ (take 4 text ++ s) ++ rest = sym (take-append-drop 4 text) ∙ (ap (λ (t : List ℕ). take 4 text ++ t) (sym (take-append-drop n (drop 4 text)) ∙ ap (λ (t : List ℕ). t ++ rest) first) ∙ sym (append_assoc (take 4 text) s rest)) in
        let others = begins-strings ss rest behind in
        record {
          text = (take 4 text ++ s) ++ others.text;
          rest = others.rest;
          parts = parts ∙ (ap (λ (t : List ℕ). (take 4 text ++ s) ++ t) others.parts ∙ sym (append_assoc (take 4 text ++ s) others.text others.rest));
          spells = (take 4 text ++ s, others.text, record { head = take 4 text; four = length-take 4 text ∙ omega (arith, some); size = sym size; parts = refl }, others.spells, refl);
        }
  ]
]

pub fronts-read : FrontsAreRead
fronts-read = record {
  small = (λ text zs. (fore int32 spelled_32 4 (lit≤ tt) (λ a z h. h) (λ a z e f. (e, f)) text zs, back int32 spelled_32 4 (lit≤ tt) (λ a z h. h) (λ a z e f. (e, f)) text zs));
  wide = (λ text zs. (fore int64 spelled_64 8 (lit≤ tt) (λ a z h. h) (λ a z e f. (e, f)) text zs, back int64 spelled_64 8 (lit≤ tt) (λ a z h. h) (λ a z e f. (e, f)) text zs));
  strings = (λ text ss. ((λ b. read-strings ss text b.text b.rest b.parts b.spells), (λ e. begins-strings ss text e)));
}
