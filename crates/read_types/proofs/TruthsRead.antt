-- Stored truth values are loaded as the page table says.
use Rattle.std.proofs.Common.{◌≡◌, ℕ, zero, suc, ◌*◌, ◌/◌, ◌%◌, ◌^◌, ◌≤◌, ◌==◌, true, true≢false, Some, List, [], ◌∷◌, map, length, take, drop, refl, arith, ap, sym, subst, ◌∙◌, All}
use Rattle.std.specs.Prelude.{sum_by}
use Rattle.std.specs.List.{AllZip}
use Rattle.std.proofs.lemmas.List.{take-map, length-map, length-append, length-take, take-append-drop}
use Rattle.std.proofs.lemmas.List.Elements.{All-head, All-tail}
use Rattle.std.proofs.lemmas.List.Sums.{sum_by-cons}
use Rattle.shredding.specs.Shape.{truths as truth_leaf}
use Rattle.shredding.specs.Slot.{Value, truth, number, bytes}
use Rattle.columns_core.specs.Shapes.{leaf_type}
use Rattle.columns_core.specs.Tree.{TypeTree, t_boolean}
use Rattle.columns_slots.specs.Types.{is_boolean}
use Rattle.pq_files.proofs.StoredOnce.{are_unique}
use Rattle.pq_files.specs.Plain.{AreBits, IsPlain}
use Rattle.pq_files.specs.Stored.{IsStored}
use Rattle.pq_headline.specs.Columns.{ArrowColumn}
use Rattle.pq_headline.specs.FieldReasons.{text_size}
use Rattle.pq_numbers.proofs.Digits.{length-digits, unpacked-append}
use Rattle.pq_numbers.specs.Bits.{bytes_for, digits_of, unpacked}
use Rattle.pq_numbers.specs.Texts.{number_of, Begins}
use Rattle.pq_tree.specs.Physical.{boolean}
use Rattle.read_leaf.specs.Truths.{plain_truths, stored_truths}
use Rattle.read_leaf.proofs.TruthSlots.{length-stored, stored-so}
use Rattle.read_pieces.specs.Leaves.{IsLoaded, ReadsPlain, ReadsLeaf}

first-digits : (b n m x : ℕ) → n ≤ m → take n (digits_of b m x) ≡ digits_of b n x
first-digits b zero m x h = refl
first-digits b (suc n) zero x h = absurd (omega (arith, h))
first-digits b (suc n) (suc m) x h = ap (λ (ds : List ℕ). x % b ∷ ds) (first-digits b n m (x / b) (omega (arith, h)))

-- the first n bits of a text, as truth values
abbrev bits_of : ℕ → List ℕ → List Value
bits_of n text = map (λ d. truth (d == 1)) (unpacked 1 n text)

loaded-bits : (ds : List ℕ) → AllZip (IsLoaded truth_leaf boolean) (map (λ b. Some (truth b)) (map (λ (d : ℕ). d == 1) ds)) (map (λ d. truth (d == 1)) ds)
loaded-bits [] = tt
loaded-bits (d ∷ ds) = (refl, loaded-bits ds)

first-stored : (text : List ℕ) (n : ℕ) → n ≤ 8 * length text → take n (stored_truths text 0) ≡ map (λ b. Some (truth b)) (map (λ (d : ℕ). d == 1) (unpacked 1 n text))
first-stored text n h =
    let m = 8 * length text in
    take-map (λ b. Some (truth b)) n (plain_truths text 0)
    ∙ ap (map (λ b. Some (truth b))) (take-map (λ (d : ℕ). d == 1) n (unpacked 1 m text) ∙ ap (map (λ (d : ℕ). d == 1)) (first-digits (2 ^ 1) n m (number_of text) h))

loaded-first : (text : List ℕ) (n : ℕ) → n ≤ 8 * length text → AllZip (IsLoaded truth_leaf boolean) (take n (stored_truths text 0)) (bits_of n text)
loaded-first text n h = rw (first-stored text n h) (loaded-bits (unpacked 1 n text))

bits_count : (n : ℕ) (text : List ℕ) → length (bits_of n text) ≡ n
bits_count n text = length-map (unpacked 1 n text) (λ d. truth (d == 1)) ∙ length-digits (2 ^ 1) n (number_of text)

all-stored : (text : List ℕ) → length (stored_truths text 0) ≡ 8 * length text
all-stored text = length-stored text 0 ∙ omega arith

spelled-truths : (text : List ℕ) (n : ℕ) → n ≤ length (stored_truths text 0) → (ss : List Value) × Begins (IsPlain boolean) text ss × AllZip (IsLoaded truth_leaf boolean) (take n (stored_truths text 0)) ss
spelled-truths text n h =
    let few : n ≤ 8 * length text = omega (arith, h, all-stored text) in
    let k = bytes_for n in
    let front = take k text in
    let size : length front ≡ k = length-take k text ∙ omega (arith, few) in
    let enough : 1 * n ≤ 8 * length front = omega (arith, size) in
    let same : unpacked 1 n text ≡ unpacked 1 n front = ap (unpacked 1 n) (sym (take-append-drop k text)) ∙ unpacked-append 1 n front (drop k text) enough in
    let count = bits_count n text in
    let spells : AreBits front (bits_of n text) = (size ∙ ap bytes_for (sym count), ap (map (λ d. truth (d == 1))) same ∙ ap (λ (j : ℕ). bits_of j front) (sym count)) in
    (bits_of n text, record { text = front; rest = drop k text; parts = sym (take-append-drop k text); spells = spells }, loaded-first text n few)

read-truths : (text : List ℕ) (ss : List Value) → Begins (IsPlain boolean) text ss → (length ss ≤ length (stored_truths text 0)) × AllZip (IsLoaded truth_leaf boolean) (take (length ss) (stored_truths text 0)) ss
read-truths text ss b =
    let n = length ss in
    let enough : 1 * n ≤ 8 * length b.text = omega (arith, b.spells.0) in
    let few : n ≤ 8 * length text = omega (arith, enough, ap length b.parts, length-append b.text b.rest) in
    let same : bits_of n text ≡ ss = ap (bits_of n) b.parts ∙ (ap (map (λ d. truth (d == 1))) (unpacked-append 1 n b.text b.rest enough) ∙ sym b.spells.1) in (
      omega (arith, few, all-stored text),
      subst (λ (vs : List Value). AllZip (IsLoaded truth_leaf boolean) (take n (stored_truths text 0)) vs) same (loaded-first text n few),
    )

reads-plain : ReadsPlain truth_leaf boolean (λ text. stored_truths text 0)
reads-plain = record { spelled = spelled-truths; read = read-truths }

-- truth values have no bytes of their own
no-size : (v s : Value) → IsStored truth_leaf boolean v s → text_size v ≡ 0
no-size (truth b) s h = refl
no-size (number z) s h = absurd h
no-size (bytes t) s h = absurd h

abbrev StandsFor : Value → Type 0
StandsFor v = (s : Value) × IsStored truth_leaf boolean v s

no-bytes : (vs : List Value) → All StandsFor vs → sum_by text_size vs ≡ 0
no-bytes [] h = refl
no-bytes (v ∷ vs) h =
    let first = All-head StandsFor v vs h in
    sum_by-cons text_size v vs ∙ omega (arith, no-size v first.0 first.1, no-bytes vs (All-tail StandsFor v vs h))

reads-leaf : (c : ArrowColumn) → leaf_type c.data_type ≡ truth_leaf → ReadsLeaf c boolean (λ text. stored_truths text 0) 1
reads-leaf c e = record {
  plain = rw e reads-plain;
  unique = are_unique.shared (leaf_type c.data_type) boolean;
  limited = (λ vs range some long. absurd (omega (arith, long, no-bytes vs (rw e at range))));
}

truth-type : (t : TypeTree) → is_boolean t ≡ true → leaf_type t ≡ truth_leaf
truth-type t_boolean e = refl
truth-type t e = absurd (true≢false (sym e))

pub truths : (c : ArrowColumn) → is_boolean c.data_type ≡ true → ReadsLeaf c boolean (λ text. stored_truths text 0) 1
truths c e = reads-leaf c (truth-type c.data_type e)

-- a byte is eight values, whatever it is
pub eights : (text : List ℕ) → (vs : List Value) × (stored_truths text 0 ≡ map Some vs) × (length vs ≡ 8 * length text)
eights text =
    let bs = plain_truths text 0 in
    (map truth bs, stored-so bs, length-map bs truth ∙ (sym (length-map bs (λ b. Some (truth b))) ∙ all-stored text))
