-- Plain values are those that are read.
use Rattle.std.proofs.Common.{◌≡◌, inl, inr, ℕ, suc, ◌+◌, ◌*◌, ◌/◌, ◌<◌, ◌≤◌, ℤ, Some, None, List, [], ◌∷◌, ◌++◌, map, length, take, drop, refl, arith, ap, sym, ◌∙◌, append_assoc, length-append, lit≤}
use Rattle.std.proofs.Math.Nat.{mul-div_cancel_left}
use Rattle.std.proofs.Math.Seq.{take-append_seam, drop-append_seam}
use Rattle.std.proofs.lemmas.Bool.{cases_lt}
use Rattle.std.proofs.lemmas.List.{take-append-drop, length-take, length-drop}
use Rattle.shredding.specs.Slot.{number, bytes}
use Rattle.pq_numbers.specs.Texts.{number_of}
use Rattle.pq_tree.specs.Physical.{Physical, int32, int64, byte_array}
use Rattle.pq_files.specs.Plain.{IsOne, InARow, IsPrefixed}
use Rattle.read_leaf.specs.Numbers.{plain_numbers, all_numbers}
use Rattle.read_leaf.specs.PlainValues.{spelled_32, spelled_64, NumbersAreRead, StringsAreRead}
use Rattle.read_leaf.specs.Strings.{string_at, all_strings, total_bytes}
use Rattle.read_leaf.proofs.Standing.{no-length, no-bytes, stands, none-stand, one-stands}

empty : (text : List ℕ) → length text ≡ 0 → text ≡ []
empty [] e = refl
empty (b ∷ bs) e = absurd (omega (arith, e))

-- ---- numbers
module _ (p : Physical) (spelled : List ℕ → ℤ) (size : ℕ) (some : 0 < size) (to : (a : List ℕ) (z : ℤ) → IsOne p a (number z) → (length a ≡ size) × (z ≡ spelled a)) (from : (a : List ℕ) (z : ℤ) → length a ≡ size → z ≡ spelled a → IsOne p a (number z)) where
  spells : (zs : List ℤ) (text : List ℕ) → InARow p text (map number zs) → (length text ≡ size * length zs) × (plain_numbers spelled size (length zs) text ≡ zs)
  spells [] text h = (rw h (omega arith), refl)
  spells (z ∷ zs) text h =
      let one = to h.0 z h.2 in
      let rest = spells zs h.1 h.3 in
      let front : take size text ≡ h.0 = ap (take size) h.4 ∙ (ap (λ n. take n (h.0 ++ h.1)) (sym one.0) ∙ take-append_seam h.0 h.1) in
      let behind : drop size text ≡ h.1 = ap (drop size) h.4 ∙ (ap (λ n. drop n (h.0 ++ h.1)) (sym one.0) ∙ drop-append_seam h.0 h.1) in
      let more : size * suc (length zs) ≡ size + size * length zs = omega arith in
      let all : length text ≡ length h.0 + length h.1 = ap length h.4 ∙ length-append h.0 h.1 in (
        rw more (omega (arith, all, one.0, rest.0)),
        rw (front, behind, rest.1) (ap (λ (y : ℤ). y ∷ zs) (sym one.1)),
      )

  unspelled : (zs : List ℤ) (text : List ℕ) → length text ≡ size * length zs → plain_numbers spelled size (length zs) text ≡ zs → InARow p text (map number zs)
  unspelled [] text e h = empty text (let none : size * 0 ≡ 0 = omega arith in omega (arith, e, none))
  unspelled (z ∷ zs) text e h =
      let more : size * suc (length zs) ≡ size + size * length zs = omega arith in
      let first : spelled (take size text) ≡ z = cc in
      let others : plain_numbers spelled size (length zs) (drop size text) ≡ zs = cc in (
        take size text,
        drop size text,
        from (take size text) z (length-take size text ∙ omega (arith, e, more)) (sym first),
        unspelled zs (drop size text) (omega (arith, length-drop size text, e, more)) others,
        sym (take-append-drop size text),
      )

  count-of : (zs : List ℤ) (text : List ℕ) → length text ≡ size * length zs → length text / size ≡ length zs
  count-of zs text e = ap (λ n. n / size) e ∙ mul-div_cancel_left (length zs) some

  all-of : (zs : List ℤ) (text : List ℕ) → length text ≡ size * length zs → all_numbers spelled size text ≡ plain_numbers spelled size (length zs) text
  all-of zs text e = ap (λ n. plain_numbers spelled size n text) (count-of zs text e)

  pub forth : (text : List ℕ) (zs : List ℤ) → InARow p text (map number zs) → (length text ≡ size * length zs) × (all_numbers spelled size text ≡ zs)
  forth text zs h = let s = spells zs text h in (s.0, all-of zs text s.0 ∙ s.1)

  pub back : (text : List ℕ) (zs : List ℤ) → (length text ≡ size * length zs) × (all_numbers spelled size text ≡ zs) → InARow p text (map number zs)
  back text zs h = unspelled zs text h.0 (sym (all-of zs text h.0) ∙ h.1)

pub numbers-read : NumbersAreRead
numbers-read = (
  (λ text zs. (forth int32 spelled_32 4 (lit≤ tt) (λ a z h. h) (λ a z e f. (e, f)) text zs, back int32 spelled_32 4 (lit≤ tt) (λ a z h. h) (λ a z e f. (e, f)) text zs)),
  (λ text zs. (forth int64 spelled_64 8 (lit≤ tt) (λ a z h. h) (λ a z e f. (e, f)) text zs, back int64 spelled_64 8 (lit≤ tt) (λ a z h. h) (λ a z e f. (e, f)) text zs)),
)

-- ---- strings
pub front-string : (first s others : List ℕ) → IsPrefixed first s → string_at (first ++ others) ≡ Some (s, others)
front-string first s others h =
    let text = first ++ others in
    let parts : text ≡ h.head ++ (s ++ others) = ap (λ (t : List ℕ). t ++ others) h.parts ∙ append_assoc h.head s others in
    let head : take 4 text ≡ h.head = ap (take 4) parts ∙ (ap (λ n. take n (h.head ++ (s ++ others))) (sym h.four) ∙ take-append_seam h.head (s ++ others)) in
    let rest : drop 4 text ≡ s ++ others = ap (drop 4) parts ∙ (ap (λ n. drop n (h.head ++ (s ++ others))) (sym h.four) ∙ drop-append_seam h.head (s ++ others)) in
    let size : length s ≡ number_of (take 4 text) = sym h.size ∙ ap number_of (sym head) in
    let long : 4 ≤ length text = omega (arith, ap length parts, length-append h.head (s ++ others), h.four) in
    let enough : length s ≤ length (drop 4 text) = omega (arith, ap length rest, length-append s others) in
    stands text (length s) long size enough ∙ (ap (λ (t : List ℕ). Some (take (length s) t, drop (length s) t)) rest ∙ rw (take-append_seam s others, drop-append_seam s others) refl)

spells-strings : (ss : List (List ℕ)) (text : List ℕ) → InARow byte_array text (map bytes ss) → (length text ≡ 4 * length ss + total_bytes ss) × (all_strings text ≡ ss)
spells-strings [] text h = (rw h refl, rw h (none-stand [] (no-length [] (omega arith))))
spells-strings (s ∷ ss) text h =
    let rest = spells-strings ss h.1 h.3 in
    let all : length text ≡ length h.0 + length h.1 = ap length h.4 ∙ length-append h.0 h.1 in
    let one : length h.0 ≡ 4 + length s = ap length h.2.parts ∙ (length-append h.2.head s ∙ ap (λ n. n + length s) h.2.four) in
    let stand : string_at text ≡ Some (s, h.1) = ap string_at h.4 ∙ front-string h.0 s h.1 h.2 in (
      omega (arith, all, one, rest.0),
      one-stands text s h.1 stand ∙ ap (λ (t : List (List ℕ)). s ∷ t) rest.1,
    )

not-empty : (s : List ℕ) (ss : List (List ℕ)) (text : List ℕ) → string_at text ≡ None → all_strings text ≡ s ∷ ss → ⊥
not-empty s ss text n e = let k = sym (none-stand text n) ∙ e in cc

unspelled-strings : (ss : List (List ℕ)) (text : List ℕ) → length text ≡ 4 * length ss + total_bytes ss → all_strings text ≡ ss → InARow byte_array text (map bytes ss)
unspelled-strings [] text e h = empty text (omega (arith, e))
unspelled-strings (s ∷ ss) text e h = elim (cases_lt (length text) 4) [
  | inl few ↦ absurd (not-empty s ss text (no-length text few) h)
  | inr some ↦ elim (cases_lt (length (drop 4 text)) (number_of (take 4 text))) [
    | inl cut ↦ absurd (not-empty s ss text (no-bytes text (number_of (take 4 text)) some refl cut) h)
    | inr whole ↦
        let n = number_of (take 4 text) in
        let rest = drop n (drop 4 text) in
        let e' = sym (one-stands text (take n (drop 4 text)) rest (stands text n some refl whole)) ∙ h in
        let first : take n (drop 4 text) ≡ s = cc in
        let others : all_strings rest ≡ ss = cc in
        let size : length s ≡ n = ap length (sym first) ∙ (length-take n (drop 4 text) ∙ omega (arith, whole)) in
        let left : length rest ≡ 4 * length ss + total_bytes ss = omega (arith, length-drop n (drop 4 text), length-drop 4 text, e, size, some) in
        let parts : text ≡ (take 4 text ++ s) ++ rest = sym (take-append-drop 4 text) ∙ (ap (λ (t : List ℕ). take 4 text ++ t) (sym (take-append-drop n (drop 4 text)) ∙ ap (λ (t : List ℕ). t ++ rest) first) ∙ sym (append_assoc (take 4 text) s rest)) in (
          take 4 text ++ s,
          rest,
          record { head = take 4 text; four = length-take 4 text ∙ omega (arith, some); size = sym size; parts = refl },
          unspelled-strings ss rest left others,
          parts,
        )
  ]
]

pub strings-read : StringsAreRead
strings-read text ss = ((λ h. spells-strings ss text h), (λ h. unspelled-strings ss text h.0 h.1))
