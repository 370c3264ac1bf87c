-- Entries as they are spelled: the stored value of each that is not null, and zero or no bytes in the place of a null one.
use Rattle.std.proofs.Common.{◌≡◌, ◌≢◌, ℕ, zero, suc, ◌+◌, ◌-◌, ◌*◌, ◌<◌, ◌≤◌, Bool, true, false, true≢false, cond, Option, List, ◌∷◌, ◌++◌, map, replicate, refl, ap, sym, ◌∙◌, arith}
use Rattle.std.specs.Prelude.{sum_by}
use Rattle.std.proofs.lemmas.List.{length-replicate}
use Rattle.std.proofs.lemmas.List.Sums.{sum_by-cons}
use Rattle.shredding.specs.Parts.{keeps, slots_from}
use Rattle.shredding.specs.Slot.{Slot, Value, null, value}
use Rattle.columns_core.specs.Shapes.{leaf_type}
use Rattle.columns_core.specs.Tree.{TypeTree}
use Rattle.columns_entries.specs.Entries.{entry_value}
use Rattle.columns_slots.specs.Slots.{leaf_at, mask_of, slot_at, tree_len, type_of}
use Rattle.columns_slots.specs.Tree.{ArrayTree, null_array, leaf_array, list_array, fixed_list_array, struct_array, dictionary_array}
use Rattle.nested_paths.specs.ValueMasks.{is_valued}
use Rattle.pq_tree.specs.Physical.{Physical, boolean, int32, int64, int96, float, double, byte_array, fixed}
use Rattle.pq_files.specs.Layout.{filler, plain_length, plain_size}
use Rattle.pq_files.specs.Plain.{InARow, IsOne}
use Rattle.write_places.specs.Places.{gather, range}
use Rattle.write_values.specs.Lengths.{plain_sum}
use Rattle.write_values.specs.Stored.{stored_at}
use Rattle.dictionary_pages.specs.Entries.{is_entry, stored_entries, stored_entry, stored_entry_at}
use Rattle.dictionary_pages.proofs.EntryTypes.{no_boolean, no_double, no_float, no_int96}

entries_from : {A : Type 0} (f : Option Value → A) (at : ℕ → Slot) (from n : ℕ) → map f (map entry_value (slots_from at from n)) ≡ map (λ i. f (entry_value (at i))) (range from n)
unfolding slots_from gather
entries_from f at from zero = refl
entries_from f at from (suc n) = ap (λ xs. f (entry_value (at from)) ∷ xs) (entries_from f at (from + 1) n)

pub entries_are : (c : ArrayTree) (p : Physical) → stored_entries c p ≡ map (stored_entry_at c p) (range 0 (tree_len c))
entries_are c p = entries_from (stored_entry (leaf_type (type_of c)) p) (slot_at c) 0 (tree_len c)

-- ---- a stretch

alike : (f g : ℕ → Value) (from n : ℕ) → ((i : ℕ) → from ≤ i → i < from + n → f i ≡ g i) → map f (range from n) ≡ map g (range from n)
unfolding gather
alike f g from zero h = refl
alike f g from (suc n) h = λ i. h from (omega arith) (omega arith) i ∷ alike f g (from + 1) n (λ j l k. h j (omega (arith, l)) (omega (arith, k))) i

same : (v : Value) (f : ℕ → Value) (from n : ℕ) → ((i : ℕ) → from ≤ i → i < from + n → f i ≡ v) → map f (range from n) ≡ replicate n v
unfolding gather
same v f from zero h = refl
same v f from (suc n) h = λ i. h from (omega arith) (omega arith) i ∷ same v f (from + 1) n (λ j l k. h j (omega (arith, l)) (omega (arith, k))) i

there_entry : (c : ArrayTree) (p : Physical) (i : ℕ) → is_valued c ≡ true → keeps (mask_of c) i ≡ true → stored_entry_at c p i ≡ stored_at c p i
there_entry (leaf_array t vs m) p i v e = ap (λ (b : Bool). stored_entry (leaf_type t) p (entry_value (cond b (value (leaf_at vs i)) null))) e
there_entry (null_array t n) p i v e = absurd (true≢false (sym v))
there_entry (list_array t os c m) p i v e = absurd (true≢false (sym v))
there_entry (fixed_list_array t w n c m) p i v e = absurd (true≢false (sym v))
there_entry (struct_array t cs m) p i v e = absurd (true≢false (sym v))
there_entry (dictionary_array t ks c m) p i v e = absurd (true≢false (sym v))

null_entry : (c : ArrayTree) (p : Physical) (i : ℕ) → is_valued c ≡ true → keeps (mask_of c) i ≡ false → stored_entry_at c p i ≡ filler p
null_entry (leaf_array t vs m) p i v e = ap (λ (b : Bool). stored_entry (leaf_type t) p (entry_value (cond b (value (leaf_at vs i)) null))) e
null_entry (null_array t n) p i v e = absurd (true≢false (sym v))
null_entry (list_array t os c m) p i v e = absurd (true≢false (sym v))
null_entry (fixed_list_array t w n c m) p i v e = absurd (true≢false (sym v))
null_entry (struct_array t cs m) p i v e = absurd (true≢false (sym v))
null_entry (dictionary_array t ks c m) p i v e = absurd (true≢false (sym v))

module _ (c : ArrayTree) (p : Physical) (v : is_valued c ≡ true) (from end : ℕ) (low : from ≤ end) where
  inside : (i : ℕ) → i < from + (end - from) → i < end
  inside i h = omega (arith, h, low)

  pub there_stretch : ((i : ℕ) → from ≤ i → i < end → keeps (mask_of c) i ≡ true) → map (stored_entry_at c p) (range from (end - from)) ≡ map (stored_at c p) (range from (end - from))
  there_stretch h = alike (stored_entry_at c p) (stored_at c p) from (end - from) (λ i l k. there_entry c p i v (h i l (inside i k)))

  pub null_stretch : ((i : ℕ) → from ≤ i → i < end → keeps (mask_of c) i ≡ false) → map (stored_entry_at c p) (range from (end - from)) ≡ replicate (end - from) (filler p)
  null_stretch h = same (filler p) (stored_entry_at c p) from (end - from) (λ i l k. null_entry c p i v (h i l (inside i k)))

-- ---- fillers

filler_sum : (p : Physical) (k : ℕ) → sum_by (plain_size p) (replicate k (filler p)) ≡ k * plain_size p (filler p)
filler_sum p zero = omega arith
filler_sum p (suc k) = sum_by-cons (plain_size p) (filler p) (replicate k (filler p)) ∙ omega (arith, filler_sum p k)

pub fillers_length : (p : Physical) (k : ℕ) → p ≢ boolean → plain_length p (replicate k (filler p)) ≡ k * plain_size p (filler p)
fillers_length p k n = plain_sum p (replicate k (filler p)) n ∙ filler_sum p k

one_filler : (t : TypeTree) (p : Physical) → is_entry t p ≡ true → IsOne p (replicate (plain_size p (filler p)) 0) (filler p)
one_filler t int32 e = (refl, refl)
one_filler t int64 e = (refl, refl)
one_filler t byte_array e = record { head = replicate 4 0; four = refl; size = refl; parts = refl }
one_filler t (fixed n) e = (length-replicate n 0, refl)
one_filler t boolean e = absurd (true≢false (sym e ∙ no_boolean t))
one_filler t int96 e = absurd (true≢false (sym e ∙ no_int96 t))
one_filler t float e = absurd (true≢false (sym e ∙ no_float t))
one_filler t double e = absurd (true≢false (sym e ∙ no_double t))

replicate_both : (m n : ℕ) → replicate {A = ℕ} (m + n) 0 ≡ replicate m 0 ++ replicate n 0
replicate_both zero n = let e : zero + n ≡ n = omega arith in ap (λ k. replicate {A = ℕ} k 0) e
replicate_both (suc m) n = let e : suc m + n ≡ suc (m + n) = omega arith in ap (λ k. replicate {A = ℕ} k 0) e ∙ ap (λ (xs : List ℕ). 0 ∷ xs) (replicate_both m n)

pub fillers_row : (t : TypeTree) (p : Physical) (k : ℕ) → is_entry t p ≡ true → InARow p (replicate (k * plain_size p (filler p)) 0) (replicate k (filler p))
fillers_row t p zero e = let z : zero * plain_size p (filler p) ≡ 0 = omega arith in ap (λ n. replicate {A = ℕ} n 0) z
fillers_row t p (suc k) e =
    let w = plain_size p (filler p) in
    let s : suc k * w ≡ w + k * w = omega arith in
    (replicate w 0, replicate (k * w) 0, one_filler t p e, fillers_row t p k e, ap (λ n. replicate {A = ℕ} n 0) s ∙ replicate_both w (k * w))
