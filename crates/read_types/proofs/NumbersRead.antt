-- Stored numbers are loaded as the page table says.
use Rattle.std.proofs.Common.{◌≡◌, ◌↔◌, inl, inr, ℕ, zero, suc, ◌^◌, ◌≤◌, ℤ, Option, Some, None, List, [], ◌∷◌, map, length, take, drop, ◌/◌, refl, arith, ap, sym, ◌∙◌, All, subst}
use Rattle.std.specs.Prelude.{option_map, sum_by}
use Rattle.std.specs.List.{AllZip}
use Rattle.shredding.specs.Shape.{LeafType, signed, Fits}
use Rattle.shredding.specs.Slot.{Value, truth, number, bytes}
use Rattle.pq_files.specs.Plain.{IsOne, InARow, IsPlain}
use Rattle.pq_files.specs.Stored.{IsStored}
use Rattle.pq_files.proofs.StoredOnce.{are_unique}
use Rattle.pq_headline.specs.Columns.{ArrowColumn}
use Rattle.pq_headline.specs.FieldReasons.{text_size}
use Rattle.pq_numbers.specs.Texts.{number_of, Begins}
use Rattle.pq_tree.specs.Physical.{Physical, int32, int64}
use Rattle.columns_core.specs.Shapes.{leaf_type}
use Rattle.read_leaf.specs.Numbers.{plain_numbers, all_numbers, loaded_value, stored_numbers}
use Rattle.read_leaf.specs.PlainValues.{spelled_32, spelled_64, AreFirstRead}
use Rattle.read_leaf.specs.Ranges.{LoadsStored}
use Rattle.std.proofs.lemmas.Bool.Decides.{leb_tells}
use Rattle.std.proofs.lemmas.List.{take-map, length-map, length-take, length-take-le}
use Rattle.std.proofs.lemmas.List.Sums.{sum_by-append}
use Rattle.std.proofs.lemmas.List.Elements.{All-head, All-tail}
use Rattle.read_leaf.proofs.FrontsRead.{fronts-read}
use Rattle.read_walk.specs.Values.{Stored}
use Rattle.read_pieces.specs.Leaves.{IsLoaded, ReadsPlain, ReadsLeaf}

-- ---- the value that a number is stored for is a number

abbrev IsNumber : Value → Type 0
IsNumber v = (z : ℤ) × (v ≡ number z)

abbrev AreNumbered : Physical → Type 0
AreNumbered p = (k : LeafType) (v s : Value) → IsStored k p v s → IsNumber v

numbered-32 : AreNumbered int32
numbered-32 k (number z) s h = (z, refl)
numbered-32 (signed w) (truth b) s h = absurd h
numbered-32 (signed w) (bytes b) s h = absurd h
numbered-32 k v s h = absurd h

numbered-64 : AreNumbered int64
numbered-64 k (number z) s h = (z, refl)
numbered-64 (signed w) (truth b) s h = absurd h
numbered-64 (signed w) (bytes b) s h = absurd h
numbered-64 k v s h = absurd h

-- plain values of these types are numbers
abbrev AreSpelled : Physical → Type 0
AreSpelled p = (vs : List Value) (text : List ℕ) → InARow p text vs → (zs : List ℤ) × (vs ≡ map number zs)

one-32 : (text : List ℕ) (v : Value) → IsOne int32 text v → IsNumber v
one-32 text (number z) h = (z, refl)
one-32 text (truth b) h = absurd h
one-32 text (bytes s) h = absurd h

one-64 : (text : List ℕ) (v : Value) → IsOne int64 text v → IsNumber v
one-64 text (number z) h = (z, refl)
one-64 text (truth b) h = absurd h
one-64 text (bytes s) h = absurd h

in-a-row : (p : Physical) → ((text : List ℕ) (v : Value) → IsOne p text v → IsNumber v) → AreSpelled p
in-a-row p one [] text h = ([], refl)
in-a-row p one (v ∷ vs) text h =
    let here = one h.0 v h.2 in
    let rest = in-a-row p one vs h.1 h.3 in
    (here.0 ∷ rest.0, ap (λ (x : Value). x ∷ vs) here.1 ∙ ap (λ (xs : List Value). number here.0 ∷ xs) rest.1)

-- ---- loaded

loaded-one : (k : LeafType) (p : Physical) (loaded : ℤ → Option ℤ) (z : ℤ) (o : Option ℤ) → loaded z ≡ o → AreNumbered p → ((v : ℤ) → (loaded z ≡ Some v) ↔ IsStored k p (number v) (number z)) → IsLoaded k p (option_map number o) (number z)
loaded-one k p loaded z (Some v) e numbered stores = (stores v).0 e
loaded-one k p loaded z None e numbered stores = λ w s.
    let n = numbered k w (number z) s in
    let h : IsStored k p (number n.0) (number z) = rw n.1 at s in
    let f = sym e ∙ (stores n.0).1 h in
    absurd (cc)

-- each is a number of so many bits
abbrev AreFit : ℕ → List ℤ → Type 0
AreFit bits [] = Unit {0}
AreFit bits (z ∷ zs) = Fits bits z × AreFit bits zs

fit-plain : (spelled : List ℕ → ℤ) (size bits n : ℕ) (text : List ℕ) → ((a : List ℕ) → Fits bits (spelled a)) → AreFit bits (plain_numbers spelled size n text)
fit-plain spelled size bits zero text fits = tt
fit-plain spelled size bits (suc n) text fits = (fits (take size text), fit-plain spelled size bits n (drop size text) fits)

fit-take : (bits n : ℕ) (zs : List ℤ) → AreFit bits zs → AreFit bits (take n zs)
fit-take bits zero zs f = tt
fit-take bits (suc n) [] f = tt
fit-take bits (suc n) (z ∷ zs) f = (f.0, fit-take bits n zs f.1)

loaded-all : (k : LeafType) (p : Physical) (bits : ℕ) (loaded : ℤ → Option ℤ) → AreNumbered p → LoadsStored loaded k p bits → (zs : List ℤ) → AreFit bits zs → AllZip (IsLoaded k p) (map (loaded_value loaded) zs) (map number zs)
loaded-all k p bits loaded numbered stores [] f = tt
loaded-all k p bits loaded numbered stores (z ∷ zs) f = (loaded-one k p loaded z (loaded z) refl numbered (λ v. stores z v f.0), loaded-all k p bits loaded numbered stores zs f.1)

-- what plain bytes give, by the numbers that are read
module _ (k : LeafType) (p : Physical) (spelled : List ℕ → ℤ) (size bits : ℕ) (loaded : ℤ → Option ℤ) (numbered : AreNumbered p) (all : AreSpelled p) (plain : (text : List ℕ) (vs : List Value) → IsPlain p text vs → InARow p text vs) (first : AreFirstRead p spelled size) (fits : (a : List ℕ) → Fits bits (spelled a)) (stores : LoadsStored loaded k p bits) where
  spelled-plain : (text : List ℕ) (n : ℕ) → n ≤ length (stored_numbers loaded spelled size text) → (ss : List Value) × Begins (IsPlain p) text ss × AllZip (IsLoaded k p) (take n (stored_numbers loaded spelled size text)) ss
  spelled-plain text n h =
      let xs = all_numbers spelled size text in
      let zs = take n xs in
      let few : n ≤ length xs = omega (arith, length-map xs (loaded_value loaded), h) in
      let same : take (length zs) xs ≡ zs = ap (λ (m : ℕ). take m xs) (length-take-le n xs few) in
      let fit : AreFit bits zs = fit-take bits n xs (fit-plain spelled size bits (length text / size) text fits) in
      (map number zs, (first text zs).1 same, rw (take-map (loaded_value loaded) n xs) (loaded-all k p bits loaded numbered stores zs fit))

  read-numbers : (text : List ℕ) (zs : List ℤ) → Begins (IsPlain p) text (map number zs) → (length (map number zs) ≤ length (stored_numbers loaded spelled size text)) × AllZip (IsLoaded k p) (take (length (map number zs)) (stored_numbers loaded spelled size text)) (map number zs)
  read-numbers text zs b =
      let xs = all_numbers spelled size text in
      let same : take (length zs) xs ≡ zs = (first text zs).0 b in
      let count : length (map number zs) ≡ length zs = length-map zs number in
      let few : length zs ≤ length xs = omega (arith, ap length same, length-take (length zs) xs) in
      let fit : AreFit bits zs = rw same at (fit-take bits (length zs) xs (fit-plain spelled size bits (length text / size) text fits)) in (
        omega (arith, length-map xs (loaded_value loaded), count, few),
        rw (count, take-map (loaded_value loaded) (length zs) xs, same) (loaded-all k p bits loaded numbered stores zs fit),
      )

  read-plain : (text : List ℕ) (ss : List Value) → Begins (IsPlain p) text ss → (length ss ≤ length (stored_numbers loaded spelled size text)) × AllZip (IsLoaded k p) (take (length ss) (stored_numbers loaded spelled size text)) ss
  read-plain text ss b =
      let n = all ss b.text (plain b.text ss b.spells) in
      subst (λ (vs : List Value). (length vs ≤ length (stored_numbers loaded spelled size text)) × AllZip (IsLoaded k p) (take (length vs) (stored_numbers loaded spelled size text)) vs) (sym n.1) (read-numbers text n.0 (subst (λ (vs : List Value). Begins (IsPlain p) text vs) n.1 b))

  pub reads-plain : ReadsPlain k p (stored_numbers loaded spelled size)
  reads-plain = record { spelled = spelled-plain; read = read-plain }

-- ---- numbers have no bytes of their own

abbrev StandsFor : LeafType → Physical → Value → Type 0
StandsFor k p v = (s : Value) × IsStored k p v s

no-size : (k : LeafType) (p : Physical) (v : Value) → AreNumbered p → StandsFor k p v → text_size v ≡ 0
no-size k p v numbered h = ap text_size (numbered k v h.0 h.1).1

none-in : (k : LeafType) (p : Physical) (vs : List Value) → AreNumbered p → All (StandsFor k p) vs → sum_by text_size vs ≡ 0
none-in k p [] numbered h = refl
none-in k p (v ∷ vs) numbered h =
    sum_by-append text_size (v ∷ []) vs ∙ omega (arith, no-size k p v numbered (All-head (StandsFor k p) v vs h), none-in k p vs numbered (All-tail (StandsFor k p) v vs h))

reads-numbers : (c : ArrowColumn) (p : Physical) (stored : List ℕ → List Stored) → AreNumbered p → ReadsPlain (leaf_type c.data_type) p stored → ReadsLeaf c p stored 1
reads-numbers c p stored numbered plain = record {
  plain = plain;
  unique = are_unique.shared (leaf_type c.data_type) p;
  limited = (λ vs range some long. absurd (omega (arith, none-in (leaf_type c.data_type) p vs numbered range, long)));
}

-- ---- of 32 and of 64 bits

fits-32 : (a : List ℕ) → Fits 32 (spelled_32 a)
fits-32 a = elim (leb_tells (suc (number_of a)) (2 ^ 31)) [ inl e ↦ rw e.0 (omega (arith, e.1)) | inr e ↦ rw e.0 (omega (arith, e.1)) ]

fits-64 : (a : List ℕ) → Fits 64 (spelled_64 a)
fits-64 a = elim (leb_tells (suc (number_of a)) (2 ^ 63)) [ inl e ↦ rw e.0 (omega (arith, e.1)) | inr e ↦ rw e.0 (omega (arith, e.1)) ]

pub reads-32 : (c : ArrowColumn) (loaded : ℤ → Option ℤ) → LoadsStored loaded (leaf_type c.data_type) int32 32 → ReadsLeaf c int32 (stored_numbers loaded spelled_32 4) 1
reads-32 c loaded stores =
    reads-numbers c int32 (stored_numbers loaded spelled_32 4) numbered-32 (reads-plain (leaf_type c.data_type) int32 spelled_32 4 32 loaded numbered-32 (in-a-row int32 one-32) (λ text vs h. h) fronts-read.small fits-32 stores)

pub reads-64 : (c : ArrowColumn) (loaded : ℤ → Option ℤ) → LoadsStored loaded (leaf_type c.data_type) int64 64 → ReadsLeaf c int64 (stored_numbers loaded spelled_64 8) 1
reads-64 c loaded stores =
    reads-numbers c int64 (stored_numbers loaded spelled_64 8) numbered-64 (reads-plain (leaf_type c.data_type) int64 spelled_64 8 64 loaded numbered-64 (in-a-row int64 one-64) (λ text vs h. h) fronts-read.wide fits-64 stores)
