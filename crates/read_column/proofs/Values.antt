-- The values of a page's section, and the plain bytes that are laid out for them.
use Rattle.std.proofs.Common.{◌≡◌, inl, inr, ℕ, ◌≤◌, Bool, Option, Some, None, List, length, refl, arith, subst}
use Rattle.std.proofs.Math.Seq.{take-length}
use Rattle.std.specs.Int.{w32, w64}
use Rattle.shredding.specs.Shape.{LeafType}
use Rattle.shredding.specs.Slot.{Value}
use Rattle.pq_files.specs.Page.{Encoding, plain, dictionary, delta, delta_length, IsSpelled}
use Rattle.pq_files.specs.PageReasons.{IsRead}
use Rattle.pq_files.specs.Plain.{IsPlain}
use Rattle.pq_files.specs.Prefixes.{BeginsDeltaLengths, BeginsValues}
use Rattle.pq_numbers.specs.Texts.{Begins}
use Rattle.pq_tree.specs.Physical.{Physical}
use Rattle.pq_tree.specs.Tree.{Leaf}
use Rattle.read_pieces.specs.Leaves.{ReadsPlain, in_bytes}
use Rattle.read_walk.specs.Values.{Stored}
use Rattle.read_column.specs.Deltas.{AreTurned, IsReadBy, deltas_in}
use Rattle.read_column.specs.Dictionary.{AreTextsOf, HasValues, Means}
use Rattle.read_column.specs.declared.deltas.Deltas.{Deltas}
use Rattle.read_column.specs.declared.deltas.Deltas.TheVariants as D
use Rattle.read_column.proofs.Dictionaries.{AreBoth, by-dictionary}
use Rattle.read_column.proofs.Turned.{front-lengths, front-strings, narrow, of-strings, strings-of, turned-numbers, turned-strings, whole-deltas, wide}

-- all values of a page
pub holds-values : (t : LeafType) (l : Leaf) (stored : List ℕ → List Stored) (d : Means) (es : Option (List Value)) (flat : Bool) (e : Encoding) (pairs present : ℕ) (section values : List ℕ) (ss : List Value) → ReadsPlain t l.physical stored → AreTextsOf stored l.physical d.entries es → d.deltas ≡ deltas_in flat l.physical → IsReadBy (in_bytes stored) d.deltas e → HasValues d e pairs present section values → length ss ≤ pairs → length ss ≡ present → AreBoth e l es section values ss
holds-values t l stored d es flat plain pairs present section values ss r a is read h few all = (λ b. rw h b, λ b. rw h at b)
holds-values t l stored d es flat dictionary pairs present section values ss r a is read h few all = by-dictionary t l stored d.entries es h.0 pairs section values ss r read a h.1 h.2 few
holds-values t l stored d es flat delta pairs present section values ss r a is read h few all = turned-numbers (in_bytes stored) l es flat d.deltas present section values ss is read h all
holds-values t l stored d es flat delta_length pairs present section values ss r a is read h few all = turned-strings (in_bytes stored) l es flat d.deltas present section values ss is read h all

-- ---- the values that can be read of a section
begins-indexed : (l : Leaf) (es : Option (List Value)) (called : ℕ) (section : List ℕ) (vs : List Value) → length vs ≤ called → Begins (IsSpelled dictionary l es) section vs → BeginsValues dictionary l es called section vs × IsRead l dictionary
begins-indexed l None called section vs few b = absurd b.spells
begins-indexed l (Some es) called section vs few b = ((few, record { text = b.text; rest = b.rest; parts = b.parts; spells = b.spells.1 }), b.spells.0)

-- all of them
pub begins-values : (e : Encoding) (l : Leaf) (es : Option (List Value)) (called : ℕ) (section : List ℕ) (vs : List Value) → length vs ≡ called → Begins (IsSpelled e l es) section vs → BeginsValues e l es called section vs × IsRead l e
begins-values plain l es called section vs all b = ((omega (arith, all), b), tt)
begins-values dictionary l es called section vs all b = begins-indexed l es called section vs (omega (arith, all)) b
begins-values delta l es called section vs all b = elim b.spells [
  | inl h ↦ (inl (h.0, whole-deltas w32 called section vs all (narrow l es section vs h.0 b)), inl h.0)
  | inr h ↦ (inr (h.0, whole-deltas w64 called section vs all (wide l es section vs h.0 b)), inr h.0)
]
begins-values delta_length l es called section vs all b =
    let front = front-lengths called (length vs) section vs all (strings-of l es section vs b) in
    (subst (λ (xs : List Value). Begins (BeginsDeltaLengths called) section xs) (take-length vs) front, b.spells.0)

-- the first of them, where they are no numbers by deltas
strings-part : (own : Bool) (l : Leaf) (es : Option (List Value)) (flat : Bool) (k : Deltas) (called : ℕ) (section values : List ℕ) (ss : List Value) → k ≡ deltas_in flat l.physical → IsReadBy own k delta_length → AreTurned k called section values → length ss ≤ called → Begins (IsPlain l.physical) values ss → BeginsValues delta_length l es called section ss × IsRead l delta_length
strings-part own l es flat D.Unread called section values ss is read t few b = absurd read
strings-part own l es flat D.Int32 called section values ss is read t few b = absurd read
strings-part own l es flat D.Int64 called section values ss is read t few b = absurd read
strings-part own l es flat D.Strings called section values ss is read t few b =
    let p = of-strings flat l.physical is in
    (front-strings called section values ss t few (subst (λ (q : Physical). Begins (IsPlain q) values ss) p b), p)

pub part-values : (t : LeafType) (l : Leaf) (stored : List ℕ → List Stored) (d : Means) (es : Option (List Value)) (flat : Bool) (e : Encoding) (pairs called : ℕ) (section values : List ℕ) (ss : List Value) → ReadsPlain t l.physical stored → AreTextsOf stored l.physical d.entries es → d.deltas ≡ deltas_in flat l.physical → IsReadBy (in_bytes stored) d.deltas e → HasValues d e pairs called section values → (e ≡ delta → ⊥) → length ss ≤ pairs → length ss ≤ called → Begins (IsPlain l.physical) values ss → BeginsValues e l es called section ss × IsRead l e
part-values t l stored d es flat plain pairs called section values ss r a is read h other few less b = ((less, rw h at b), tt)
part-values t l stored d es flat dictionary pairs called section values ss r a is read h other few less b = begins-indexed l es called section ss less ((by-dictionary t l stored d.entries es h.0 pairs section values ss r read a h.1 h.2 few).1 b)
part-values t l stored d es flat delta pairs called section values ss r a is read h other few less b = absurd (other refl)
part-values t l stored d es flat delta_length pairs called section values ss r a is read h other few less b = strings-part (in_bytes stored) l es flat d.deltas called section values ss is read h less b
