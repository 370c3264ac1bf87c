-- Stored byte strings are loaded as the page table says.
use Rattle.std.proofs.Common.{◌≡◌, ◌↔◌, ℕ, ◌^◌, ◌≤◌, Bool, true, false, Some, None, List, [], ◌∷◌, map, length, take, refl, arith, ap, sym, subst, if◌then◌else◌, true≢false}
use Rattle.std.specs.Prelude.{sum_by}
use Rattle.std.specs.List.{AllZip}
use Rattle.std.specs.Str.{is_utf8}
use Rattle.std.proofs.lemmas.List.{take-map, length-map, length-take, length-take-le}
use Rattle.shredding.specs.Shape.{LeafType}
use Rattle.shredding.specs.Slot.{Value, truth, number, bytes}
use Rattle.columns_core.specs.Shapes.{leaf_type}
use Rattle.columns_core.specs.Tree.{TypeTree, t_utf8, t_large_utf8, t_binary, t_large_binary}
use Rattle.columns_slots.specs.Types.{is_text, is_binary}
use Rattle.pq_files.proofs.StoredOnce.{are_unique}
use Rattle.pq_files.specs.Plain.{InARow, IsPlain}
use Rattle.pq_files.specs.Stored.{IsStored}
use Rattle.pq_headline.specs.Columns.{ArrowColumn}
use Rattle.pq_headline.specs.FieldReasons.{PassesTexts, text_size}
use Rattle.pq_numbers.specs.Texts.{Begins}
use Rattle.pq_tree.specs.Physical.{byte_array}
use Rattle.read_leaf.specs.Strings.{all_strings, loaded_string, stored_strings}
use Rattle.read_leaf.proofs.FrontsRead.{fronts-read}
use Rattle.read_leaf.proofs.TextsStored.{strings-stored}
use Rattle.read_pieces.specs.Leaves.{IsLoaded, ReadsPlain, ReadsLeaf}

-- a value is loaded exactly where the page table stores it so
abbrev LoadsStrings : LeafType → (List ℕ → Bool) → Type 0
LoadsStrings k allows = (s : List ℕ) (v : Value) → (loaded_string allows s ≡ Some v) ↔ IsStored k byte_array v (bytes s)

loaded-string : (k : LeafType) (allows : List ℕ → Bool) → LoadsStrings k allows → (s : List ℕ) (b : Bool) → allows s ≡ b → IsLoaded k byte_array (if b then Some (bytes s) else None) (bytes s)
loaded-string k allows stores s true e = (stores s (bytes s)).0 (rw e refl)
loaded-string k allows stores s false e = λ w h.
    let f : None ≡ Some w = rw e at ((stores s w).1 h) in
    absurd (cc)

loaded-all : (k : LeafType) (allows : List ℕ → Bool) → LoadsStrings k allows → (ss : List (List ℕ)) → AllZip (IsLoaded k byte_array) (map (loaded_string allows) ss) (map bytes ss)
loaded-all k allows stores [] = tt
loaded-all k allows stores (s ∷ ss) = (loaded-string k allows stores s (allows s) refl, loaded-all k allows stores ss)

-- plain values of byte strings are byte strings
are-spelled : (vs : List Value) (text : List ℕ) → InARow byte_array text vs → (ss : List (List ℕ)) × (vs ≡ map bytes ss)
are-spelled [] text h = ([], refl)
are-spelled (bytes s ∷ vs) text h = let rest = are-spelled vs h.1 h.3 in (s ∷ rest.0, ap (λ (xs : List Value). bytes s ∷ xs) rest.1)
are-spelled (number z ∷ vs) text h = absurd h.2
are-spelled (truth b ∷ vs) text h = absurd h.2

module _ (k : LeafType) (allows : List ℕ → Bool) (stores : LoadsStrings k allows) where
  spelled-strings : (text : List ℕ) (n : ℕ) → n ≤ length (stored_strings allows text) → (ss : List Value) × Begins (IsPlain byte_array) text ss × AllZip (IsLoaded k byte_array) (take n (stored_strings allows text)) ss
  spelled-strings text n h =
      let xs = all_strings text in
      let few : n ≤ length xs = omega (arith, length-map xs (loaded_string allows), h) in
      let same : take (length (take n xs)) xs ≡ take n xs = ap (λ (m : ℕ). take m xs) (length-take-le n xs few) in
      (map bytes (take n xs), (fronts-read.strings text (take n xs)).1 same, rw (take-map (loaded_string allows) n xs) (loaded-all k allows stores (take n xs)))

  read-bytes : (text : List ℕ) (ss : List (List ℕ)) → Begins (IsPlain byte_array) text (map bytes ss) → (length (map bytes ss) ≤ length (stored_strings allows text)) × AllZip (IsLoaded k byte_array) (take (length (map bytes ss)) (stored_strings allows text)) (map bytes ss)
  read-bytes text ss b =
      let xs = all_strings text in
      let same : take (length ss) xs ≡ ss = (fronts-read.strings text ss).0 b in
      let count : length (map bytes ss) ≡ length ss = length-map ss bytes in
      let few : length ss ≤ length xs = omega (arith, ap length same, length-take (length ss) xs) in (
        omega (arith, length-map xs (loaded_string allows), count, few),
        rw (count, take-map (loaded_string allows) (length ss) xs, same) (loaded-all k allows stores ss),
      )

  read-strings : (text : List ℕ) (vs : List Value) → Begins (IsPlain byte_array) text vs → (length vs ≤ length (stored_strings allows text)) × AllZip (IsLoaded k byte_array) (take (length vs) (stored_strings allows text)) vs
  read-strings text vs b =
      let n = are-spelled vs b.text b.spells in
      subst (λ (us : List Value). (length us ≤ length (stored_strings allows text)) × AllZip (IsLoaded k byte_array) (take (length us) (stored_strings allows text)) us) (sym n.1) (read-bytes text n.0 (subst (λ (us : List Value). Begins (IsPlain byte_array) text us) n.1 b))

  reads-plain : ReadsPlain k byte_array (stored_strings allows)
  reads-plain = record { spelled = spelled-strings; read = read-strings }

reads-leaf : (c : ArrowColumn) (allows : List ℕ → Bool) (limit : ℕ) → LoadsStrings (leaf_type c.data_type) allows → ((vs : List Value) → limit ≤ sum_by text_size vs → PassesTexts c.data_type vs) → ReadsLeaf c byte_array (stored_strings allows) limit
reads-leaf c allows limit stores passes = record {
  plain = reads-plain (leaf_type c.data_type) allows stores;
  unique = are_unique.shared (leaf_type c.data_type) byte_array;
  limited = (λ vs range some long. passes vs long);
}

-- ---- each type

loads-texts : (large : Bool) (t : TypeTree) → is_text large t ≡ true → LoadsStrings (leaf_type t) is_utf8
loads-texts false t_utf8 e = strings-stored.texts
loads-texts true t_large_utf8 e = strings-stored.texts
loads-texts false t e = absurd (true≢false (sym e))
loads-texts true t e = absurd (true≢false (sym e))

loads-strings : (large : Bool) (t : TypeTree) → is_binary large t ≡ true → LoadsStrings (leaf_type t) (λ s. true)
loads-strings false t_binary e = strings-stored.strings
loads-strings true t_large_binary e = strings-stored.strings
loads-strings false t e = absurd (true≢false (sym e))
loads-strings true t e = absurd (true≢false (sym e))

passes-small-text : (t : TypeTree) → is_text false t ≡ true → (vs : List Value) → 2 ^ 31 ≤ sum_by text_size vs → PassesTexts t vs
passes-small-text t_utf8 e vs h = omega (arith, h)
passes-small-text t e vs h = absurd (true≢false (sym e))

passes-large-text : (t : TypeTree) → is_text true t ≡ true → (vs : List Value) → 2 ^ 63 ≤ sum_by text_size vs → PassesTexts t vs
passes-large-text t_large_utf8 e vs h = omega (arith, h)
passes-large-text t e vs h = absurd (true≢false (sym e))

passes-small : (t : TypeTree) → is_binary false t ≡ true → (vs : List Value) → 2 ^ 31 ≤ sum_by text_size vs → PassesTexts t vs
passes-small t_binary e vs h = omega (arith, h)
passes-small t e vs h = absurd (true≢false (sym e))

passes-large : (t : TypeTree) → is_binary true t ≡ true → (vs : List Value) → 2 ^ 63 ≤ sum_by text_size vs → PassesTexts t vs
passes-large t_large_binary e vs h = omega (arith, h)
passes-large t e vs h = absurd (true≢false (sym e))

pub texts : (c : ArrowColumn) → is_text false c.data_type ≡ true → ReadsLeaf c byte_array (stored_strings is_utf8) (2 ^ 31)
texts c e = reads-leaf c is_utf8 (2 ^ 31) (loads-texts false c.data_type e) (passes-small-text c.data_type e)

pub large-texts : (c : ArrowColumn) → is_text true c.data_type ≡ true → ReadsLeaf c byte_array (stored_strings is_utf8) (2 ^ 63)
large-texts c e = reads-leaf c is_utf8 (2 ^ 63) (loads-texts true c.data_type e) (passes-large-text c.data_type e)

pub strings : (c : ArrowColumn) → is_binary false c.data_type ≡ true → ReadsLeaf c byte_array (stored_strings (λ s. true)) (2 ^ 31)
strings c e = reads-leaf c (λ s. true) (2 ^ 31) (loads-strings false c.data_type e) (passes-small c.data_type e)

pub large-strings : (c : ArrowColumn) → is_binary true c.data_type ≡ true → ReadsLeaf c byte_array (stored_strings (λ s. true)) (2 ^ 63)
large-strings c e = reads-leaf c (λ s. true) (2 ^ 63) (loads-strings true c.data_type e) (passes-large c.data_type e)
