-- The slots of arrays of what is decoded.
use Rattle.std.proofs.Common.{◌≡◌, ℕ, zero, suc, ◌+◌, ◌-◌, ◌*◌, ◌/◌, ◌%◌, ◌<◌, ◌≤◌, ℤ, Bool, true, false, List, [], ◌∷◌, map, length, refl, arith, ap, sym, ◌∙◌, true≢false}
use Rattle.std.proofs.Math.Nat.{div-add-mod, mul-div_cancel_left}
use Rattle.std.proofs.lemmas.List.{length-map}
use Rattle.std.proofs.lemmas.Str.{IsUtf8-from_is_utf8}
use Rattle.std.specs.Str.{is_utf8}
use Rattle.shredding.specs.Parts.{slots_from}
use Rattle.shredding.specs.Slot.{Value, truth, number, bytes, Slot, null, value}
use Rattle.columns_core.specs.Rising.{RisesFrom, IsRising, last_place}
use Rattle.columns_core.specs.Shapes.{leaf_type}
use Rattle.columns_core.specs.Tree.{TypeTree}
use Rattle.columns_leaf.specs.Texts.{IsText, AreTexts}
use Rattle.columns_slots.proofs.Strings.{chunks_len, pieces_len}
use Rattle.columns_slots.specs.Bytes.{chunks, chunks_values, pieces, pieces_values}
use Rattle.columns_slots.specs.Slots.{slots, slot_at, AreUpTo, IsPlaces}
use Rattle.pq_files.specs.Statistics.{has_order}
use Rattle.read_leaf.specs.Fixed.{value_slots as fixed_slots}
use Rattle.read_leaf.specs.FixedBytes.{chunk_slots}
use Rattle.read_leaf.specs.Numbers.{number_slots}
use Rattle.read_leaf.specs.Strings.{string_slots, AreAllowed}
use Rattle.read_leaf.specs.Truths.{truth_slots}
use Rattle.read_types.specs.Arrays.{IsLeafArray, masked_leaf, makes_numbers}

-- ---- a value or null at each position

value_slots : List Value → List Bool → List Slot
value_slots (v ∷ vs) (true ∷ bs) = value v ∷ value_slots vs bs
value_slots (v ∷ vs) (false ∷ bs) = null ∷ value_slots vs bs
value_slots [] bs = []
value_slots (v ∷ vs) [] = []

shifted : (f g : ℕ → Slot) (place n : ℕ) → ((i : ℕ) → f (suc i) ≡ g i) → slots_from f (suc place) n ≡ slots_from g place n
unfolding slots_from
shifted f g place zero same = refl
shifted f g place (suc n) same =
    let e : suc place + 1 ≡ suc (place + 1) = omega arith in
    rw (e, same place, shifted f g (place + 1) n same) refl

masked-slots : (t : TypeTree) (vs : List Value) (bs : List Bool) → length vs ≡ length bs → slots (masked_leaf t vs bs) ≡ value_slots vs bs
unfolding slots_from value_slots
masked-slots t [] bs e = refl
masked-slots t (v ∷ vs) [] e = absurd (omega (arith, e))
masked-slots t (v ∷ vs) (true ∷ bs) e =
    ap (λ (ss : List Slot). value v ∷ ss) (shifted (slot_at (masked_leaf t (v ∷ vs) (true ∷ bs))) (slot_at (masked_leaf t vs bs)) 0 (length vs) (λ i. refl) ∙ masked-slots t vs bs (omega (arith, e)))
masked-slots t (v ∷ vs) (false ∷ bs) e =
    ap (λ (ss : List Slot). null ∷ ss) (shifted (slot_at (masked_leaf t (v ∷ vs) (false ∷ bs))) (slot_at (masked_leaf t vs bs)) 0 (length vs) (λ i. refl) ∙ masked-slots t vs bs (omega (arith, e)))

-- ---- numbers

of-numbers : {X : Type 0} (worth : X → Value) (num : X → ℤ) → ((x : X) → worth x ≡ number (num x)) → (xs : List X) (bs : List Bool) → value_slots (map worth xs) bs ≡ number_slots (map num xs) bs
unfolding value_slots
of-numbers worth num valued [] bs = refl
of-numbers worth num valued (x ∷ xs) [] = refl
of-numbers worth num valued (x ∷ xs) (true ∷ bs) = rw (valued x, of-numbers worth num valued xs bs) refl
of-numbers worth num valued (x ∷ xs) (false ∷ bs) = rw (of-numbers worth num valued xs bs) refl

pub number-array : {X : Type 0} (t : TypeTree) (worth : X → Value) (num : X → ℤ) → ((x : X) → worth x ≡ number (num x)) → (numbers xs : List X) (bits bs : List Bool) → numbers ≡ xs → bits ≡ bs → length xs ≡ length bs → IsLeafArray t (number_slots (map num xs) bs) (masked_leaf t (map worth numbers) bits)
number-array t worth num valued numbers xs bits bs n b e = rw (n, b) record {
  typed = refl;
  same = masked-slots t (map worth xs) bs (length-map xs worth ∙ e) ∙ of-numbers worth num valued xs bs;
  entries = refl;
}

-- ---- values of one size

of-values : {X : Type 0} (worth held : X → Value) → ((x : X) → worth x ≡ held x) → (xs : List X) (bs : List Bool) → value_slots (map worth xs) bs ≡ fixed_slots (map held xs) bs
unfolding value_slots
of-values worth held valued [] bs = refl
of-values worth held valued (x ∷ xs) [] = refl
of-values worth held valued (x ∷ xs) (true ∷ bs) = rw (valued x, of-values worth held valued xs bs) refl
of-values worth held valued (x ∷ xs) (false ∷ bs) = rw (of-values worth held valued xs bs) refl

pub fixed-array : {X : Type 0} (t : TypeTree) (worth held : X → Value) → ((x : X) → worth x ≡ held x) → (numbers xs : List X) (bits bs : List Bool) → numbers ≡ xs → bits ≡ bs → length xs ≡ length bs → IsLeafArray t (fixed_slots (map held xs) bs) (masked_leaf t (map worth numbers) bits)
fixed-array t worth held valued numbers xs bits bs n b e = rw (n, b) record {
  typed = refl;
  same = masked-slots t (map worth xs) bs (length-map xs worth ∙ e) ∙ of-values worth held valued xs bs;
  entries = refl;
}

-- ---- byte strings of one size

of-chunks : (vs : List Value) (bs : List Bool) → value_slots vs bs ≡ fixed_slots vs bs
unfolding value_slots
of-chunks [] bs = refl
of-chunks (v ∷ vs) [] = refl
of-chunks (v ∷ vs) (true ∷ bs) = rw (of-chunks vs bs) refl
of-chunks (v ∷ vs) (false ∷ bs) = rw (of-chunks vs bs) refl

-- two sizes of as many strings, at least one, over the same bytes
same-width : (n size width : ℕ) → 0 < n → size * n ≡ width * n → size ≡ width
same-width n size width some e =
    let turn : n * size ≡ n * width = omega (arith, e) in
    sym (mul-div_cancel_left size some) ∙ (ap (λ (k : ℕ). k / n) turn ∙ mul-div_cancel_left width some)

same-chunks : (n size width : ℕ) (content : List ℕ) → size * n ≡ width * n → chunks_values width n content ≡ chunks_values size n content
same-chunks zero size width content e = refl
same-chunks (suc n) size width content e = ap (λ (k : ℕ). chunks_values k (suc n) content) (sym (same-width (suc n) size width (omega arith) e))

pub chunk-array : (t : TypeTree) (size width : ℕ) (content text : List ℕ) (bits bs : List Bool) → content ≡ text → bits ≡ bs → length text ≡ size * length bs → length content % width ≡ 0 → length bits ≡ length content / width → IsLeafArray t (chunk_slots size text bs) (masked_leaf t (chunks_values width (length content / width) content) bits)
chunk-array t size width content text bits bs c b even whole count =
    let n = length bs in
    let number : length content / width ≡ n = sym count ∙ ap length b in
    let exact : size * n ≡ width * n = sym even ∙ (ap length (sym c) ∙ (sym (div-add-mod (length content) width) ∙ (omega (arith, whole) ∙ ap (λ (k : ℕ). width * k) number))) in
    let values : chunks_values width (length content / width) content ≡ chunks_values size n text = ap (λ (k : ℕ). chunks_values width k content) number ∙ (ap (chunks_values width n) c ∙ same-chunks n size width text exact) in
    let many : length (chunks_values size n text) ≡ n = length-map (chunks size n text) bytes ∙ chunks_len size n text in
    rw (values, b) record {
      typed = refl;
      same = masked-slots t (chunks_values size n text) bs many ∙ of-chunks (chunks_values size n text) bs;
      entries = refl;
    }

-- a type of such arrays stores the numbers, and has an order
pub stores-so : (stores : TypeTree → Bool) (t : TypeTree) → makes_numbers stores t ≡ true → stores t ≡ true
stores-so stores t e = of (stores t) refl
  where
    of : (b : Bool) → stores t ≡ b → stores t ≡ true
    of true h = h
    of false h = absurd (true≢false (sym (rw h at e)))

pub ordered-so : (stores : TypeTree → Bool) (t : TypeTree) → makes_numbers stores t ≡ true → has_order (leaf_type t) ≡ true
ordered-so stores t e = rw (stores-so stores t e) at e

-- ---- truth values

of-truths : (ts bs : List Bool) → value_slots (map truth ts) bs ≡ truth_slots ts bs
unfolding value_slots
of-truths [] bs = refl
of-truths (t ∷ ts) [] = refl
of-truths (t ∷ ts) (true ∷ bs) = rw (of-truths ts bs) refl
of-truths (t ∷ ts) (false ∷ bs) = rw (of-truths ts bs) refl

pub truth-array : (t : TypeTree) (truths ts bits bs : List Bool) → truths ≡ ts → bits ≡ bs → length ts ≡ length bs → IsLeafArray t (truth_slots ts bs) (masked_leaf t (map truth truths) bits)
truth-array t truths ts bits bs are b e = rw (are, b) record {
  typed = refl;
  same = masked-slots t (map truth ts) bs (length-map ts truth ∙ e) ∙ of-truths ts bs;
  entries = refl;
}

-- ---- strings

of-strings : (ss : List (List ℕ)) (bs : List Bool) → value_slots (map bytes ss) bs ≡ string_slots ss bs
unfolding value_slots
of-strings [] bs = refl
of-strings (s ∷ ss) [] = refl
of-strings (s ∷ ss) (true ∷ bs) = rw (of-strings ss bs) refl
of-strings (s ∷ ss) (false ∷ bs) = rw (of-strings ss bs) refl

pub string-array : (t : TypeTree) (offsets content : List ℕ) (ss : List (List ℕ)) (bits bs : List Bool) → pieces offsets content ≡ ss → bits ≡ bs → length ss ≡ length bs → IsLeafArray t (string_slots ss bs) (masked_leaf t (pieces_values offsets content) bits)
string-array t offsets content ss bits bs are b e = rw (are, b) record {
  typed = refl;
  same = masked-slots t (map bytes ss) bs (length-map ss bytes ∙ e) ∙ of-strings ss bs;
  entries = refl;
}

pub mask-fits : (offsets content : List ℕ) (ss : List (List ℕ)) (bs : List Bool) → pieces offsets content ≡ ss → length ss ≡ length bs → length bs ≡ length offsets - 1
mask-fits offsets content ss bs are e = sym e ∙ (sym (ap length are) ∙ pieces_len offsets content)

pub all_texts : (ss : List (List ℕ)) → AreAllowed is_utf8 ss → AreTexts ss
unfolding IsText
all_texts [] a = tt
all_texts (s ∷ ss) a = (IsUtf8-from_is_utf8 s a.0, all_texts ss a.1)

up : (o : ℕ) (os : List ℕ) (n : ℕ) → RisesFrom o os → last_place (o ∷ os) ≤ n → AreUpTo o os n
up o [] n r h = h
up o (p ∷ os) n r h = (r.0, up p os n r.1 h)

pub rising-places : (os : List ℕ) (n : ℕ) → IsRising os → last_place os ≡ n → IsPlaces os n
rising-places [] n r h = absurd r
rising-places (o ∷ os) n r h = up o os n r (omega (arith, h))
