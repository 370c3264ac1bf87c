-- The steps of the walk.
use Rattle.std.proofs.Common.{◌≡◌, ◌⊎◌, ◌↔◌, inl, inr, ℕ, zero, suc, ◌+◌, ◌-◌, ◌≤◌, ◌<◌, Bool, IsTrue, true, false, nat_eq, List, [], ◌∷◌, length, drop, get_or, None, Some, add-one, drop-cons, refl, ap, sym, subst, ◌∙◌, arith}
use Rattle.std.specs.Prelude.{slice_index_or, string_bytes}
use Rattle.std.proofs.lemmas.Bool.{cases_lt, false≢true, ne_eqb}
use Rattle.std.proofs.lemmas.List.{drop_all}
use Rattle.shredding.specs.Parts.{keeps, MaskFits}
use Rattle.shredding.specs.Shape.{AreOf, IsOf}
use Rattle.shredding.specs.Slot.{Slot, null}
use Rattle.columns_array.specs.Boxed.{all_boxed, boxed}
use Rattle.columns_array.specs.declared.arrays.ArrayBox.{ArrayBox}
use Rattle.columns_array.proofs.Keys.{kept_bit}
use Rattle.columns_array.specs.Chunks.{AreEven, HaveLen}
use Rattle.columns_core.specs.Shapes.{shapes_of, type_shape}
use Rattle.columns_core.specs.Tree.{FieldTree, FieldTrees, TypeTree, field, more_fields}
use Rattle.columns_core.specs.View.{field_step, field_view, fields_view, type_step, type_view}
use Rattle.columns_core.specs.declared.types.Field.{Field, fold_out-Field}
use Rattle.columns_slots.specs.Slots.{AreLong, AreTyped, IsSound, child_of, entry_at, keys_in, mask_of, slot_at, first_len, slots_at, tree_len, tree_size, trees_size, type_of}
use Rattle.columns_slots.specs.Tree.{ArrayTree, ArrayTrees, Mask, more_arrays, dictionary_array, fixed_list_array, leaf_array, list_array, no_arrays, null_array, struct_array}
use Rattle.typed_rows.specs.Own.{AreOwn, AreRows}
use Rattle.typed_rows.proofs.Held.{entry_own, hidden, null_own, own_entry}

-- ---- entries

pub entry_one : (a : ArrayTree) (b : Bool) (i entry : ℕ) (child : ArrayTree) → IsSound a → a ≡ dictionary_array (type_of a) (keys_in a) (child_of a) (mask_of a) → keeps (mask_of a) i ≡ true → child ≡ child_of a → entry ≡ entry_at (keys_in a) i
    → AreOwn b child entry 1 ↔ IsOf (type_shape b (type_of a)) (slot_at a i)
entry_one (dictionary_array t ks c m) b i entry child s e k p q = rw (p, q) (entry_own t ks c m s b i k, own_entry t ks c m s b i k)
entry_one (struct_array t cs m) b i entry child s e k p q = absurd cc
entry_one (fixed_list_array t w n c m) b i entry child s e k p q = absurd cc
entry_one (list_array t os c m) b i entry child s e k p q = absurd cc
entry_one (null_array t w) b i entry child s e k p q = absurd cc
entry_one (leaf_array t vs m) b i entry child s e k p q = absurd cc

-- one more slot
pub own_more : (a : ArrayTree) (b : Bool) (from i : ℕ) → from ≤ i → AreOwn b a from (i - from) → IsOf (type_shape b (type_of a)) (slot_at a i) → AreOwn b a from (i + 1 - from)
own_more a b from i le h s j l r =
    elim (cases_lt j i) [
      | inl lt ↦ h j l (omega (arith, lt, l))
      | inr ge ↦
          let e : i ≡ j = omega (arith, ge, r, le) in
          subst (λ (k : ℕ). IsOf (type_shape b (type_of a)) (slot_at a k)) e s
    ]

-- ---- fields

pub front : {A : Type 0} (xs : List A) (i : ℕ) (x : A) → i < length xs → x ≡ get_or xs i x → drop i xs ≡ x ∷ drop (i + 1) xs
front xs i x h e = rw (add-one, drop-cons xs i x h, ← e) refl

seen : (f : Field) → field_view f ≡ field (string_bytes f.name) (type_view f.data_type) f.is_nullable f.metadata
seen f = fold_out-Field TypeTree FieldTree type_step field_step f

opened : (f : Field) (fs : List Field) → fields_view (f ∷ fs) ≡ more_fields (field (string_bytes f.name) (type_view f.data_type) f.is_nullable f.metadata) (fields_view fs)
opened f fs = ap (λ (t : FieldTree). more_fields t (fields_view fs)) (seen f)

typed_count : (fs : List Field) (xs : List ArrayBox) → AreTyped (fields_view fs) (all_boxed xs) → length fs ≡ length xs
typed_count [] [] h = refl
typed_count [] (x ∷ xs) h = absurd h
typed_count (f ∷ fs) [] h = let g = subst (λ (t : FieldTrees). AreTyped t no_arrays) (opened f fs) h in absurd g
typed_count (f ∷ fs) (x ∷ xs) h = let g = subst (λ (t : FieldTrees). AreTyped t (all_boxed (x ∷ xs))) (opened f fs) h in ap suc (typed_count fs xs g.1)

pub same_number : (fs : List Field) (xs : List ArrayBox) → AreTyped (fields_view fs) (all_boxed xs) → length fs ≡ length xs
same_number fs xs h = typed_count fs xs h

typed_open : (f : Field) (fs : List Field) (x : ArrayBox) (xs : List ArrayBox) → AreTyped (fields_view (f ∷ fs)) (all_boxed (x ∷ xs)) → (type_view f.data_type ≡ type_of (boxed x)) × AreTyped (fields_view fs) (all_boxed xs)
typed_open f fs x xs h = subst (λ (t : FieldTrees). AreTyped t (all_boxed (x ∷ xs))) (opened f fs) h

one_row : (f : Field) (fs : List Field) (x : ArrayBox) (xs : List ArrayBox) (i : ℕ) → type_view f.data_type ≡ type_of (boxed x)
    → AreOf (shapes_of (fields_view (f ∷ fs))) (slots_at (all_boxed (x ∷ xs)) i) ↔ (IsOf (type_shape f.is_nullable (type_of (boxed x))) (slot_at (boxed x) i) × AreOf (shapes_of (fields_view fs)) (slots_at (all_boxed xs) i))
one_row f fs x xs i e =
    subst (λ (t : FieldTrees). AreOf (shapes_of t) (slots_at (all_boxed (x ∷ xs)) i) ↔ (IsOf (type_shape f.is_nullable (type_of (boxed x))) (slot_at (boxed x) i) × AreOf (shapes_of (fields_view fs)) (slots_at (all_boxed xs) i))) (sym (opened f fs))
    (rw e (λ h. h, λ h. h))

module _ (fs : List Field) (xs : List ArrayBox) (i : ℕ) (f : Field) (x : ArrayBox) (lf : drop i fs ≡ f ∷ drop (i + 1) fs) (lx : drop i xs ≡ x ∷ drop (i + 1) xs) where
  pub typed_step : AreTyped (fields_view (drop i fs)) (all_boxed (drop i xs)) → (type_view f.data_type ≡ type_of (boxed x)) × AreTyped (fields_view (drop (i + 1) fs)) (all_boxed (drop (i + 1) xs))
  typed_step h =
      typed_open f (drop (i + 1) fs) x (drop (i + 1) xs)
      (subst (λ (ys : List ArrayBox). AreTyped (fields_view (f ∷ drop (i + 1) fs)) (all_boxed ys)) lx
      (subst (λ (ys : List Field). AreTyped (fields_view ys) (all_boxed (drop i xs))) lf h))

  pub typed_more : type_view f.data_type ≡ type_of (boxed x) → AreTyped (fields_view (drop (i + 1) fs)) (all_boxed (drop (i + 1) xs)) → AreTyped (fields_view (drop i fs)) (all_boxed (drop i xs))
  typed_more e h =
      subst (λ (ys : List Field). AreTyped (fields_view ys) (all_boxed (drop i xs))) (sym lf)
      (subst (λ (ys : List ArrayBox). AreTyped (fields_view (f ∷ drop (i + 1) fs)) (all_boxed ys)) (sym lx)
      (subst (λ (t : FieldTrees). AreTyped t (all_boxed (x ∷ drop (i + 1) xs))) (sym (opened f (drop (i + 1) fs))) (e, h)))

  pub long_step : (n : ℕ) → AreLong n (all_boxed (drop i xs)) → (n ≤ tree_len (boxed x)) × AreLong n (all_boxed (drop (i + 1) xs))
  long_step n h = subst (λ (ys : List ArrayBox). AreLong n (all_boxed ys)) lx h

  pub rows_more : (from n : ℕ) → type_view f.data_type ≡ type_of (boxed x) → AreOwn f.is_nullable (boxed x) from n → AreRows (fields_view (drop (i + 1) fs)) (all_boxed (drop (i + 1) xs)) from n → AreRows (fields_view (drop i fs)) (all_boxed (drop i xs)) from n
  rows_more from n e h g =
      subst (λ (ys : List Field). AreRows (fields_view ys) (all_boxed (drop i xs)) from n) (sym lf)
      (subst (λ (ys : List ArrayBox). AreRows (fields_view (f ∷ drop (i + 1) fs)) (all_boxed ys) from n) (sym lx)
      (λ j l r. (one_row f (drop (i + 1) fs) x (drop (i + 1) xs) j e).1 (h j l r, g j l r)))

  rows_open : (from n : ℕ) → AreRows (fields_view (drop i fs)) (all_boxed (drop i xs)) from n → AreRows (fields_view (f ∷ drop (i + 1) fs)) (all_boxed (x ∷ drop (i + 1) xs)) from n
  rows_open from n h =
      subst (λ (ys : List ArrayBox). AreRows (fields_view (f ∷ drop (i + 1) fs)) (all_boxed ys) from n) lx
      (subst (λ (ys : List Field). AreRows (fields_view ys) (all_boxed (drop i xs)) from n) lf h)

  pub rows_first : (from n : ℕ) → type_view f.data_type ≡ type_of (boxed x) → AreRows (fields_view (drop i fs)) (all_boxed (drop i xs)) from n → AreOwn f.is_nullable (boxed x) from n
  rows_first from n e h j l r = ((one_row f (drop (i + 1) fs) x (drop (i + 1) xs) j e).0 (rows_open from n h j l r)).0

  pub rows_rest : (from n : ℕ) → type_view f.data_type ≡ type_of (boxed x) → AreRows (fields_view (drop i fs)) (all_boxed (drop i xs)) from n → AreRows (fields_view (drop (i + 1) fs)) (all_boxed (drop (i + 1) xs)) from n
  rows_rest from n e h j l r = ((one_row f (drop (i + 1) fs) x (drop (i + 1) xs) j e).0 (rows_open from n h j l r)).1

pub no_rows : (fs : List Field) (xs : List ArrayBox) (i from n : ℕ) → length xs ≤ i → length fs ≡ length xs → AreRows (fields_view (drop i fs)) (all_boxed (drop i xs)) from n
no_rows fs xs i from n h e = rw (drop_all i fs (omega (arith, h, e)), drop_all i xs h) (λ j l r. tt)

pub size_at : (xs : List ArrayBox) (i : ℕ) (x : ArrayBox) → i < length xs → x ≡ get_or xs i x → tree_size (boxed x) ≤ trees_size (all_boxed xs)
size_at [] i x h e = absurd (omega (arith, h))
size_at (y ∷ xs) zero x h e = rw e (omega arith)
size_at (y ∷ xs) (suc i) x h e = omega (arith, size_at xs i x (omega (arith, h)) e)

-- ---- nulls

pub nulls_own : (a : ArrayTree) (b : Bool) (from n : ℕ) → ((i : ℕ) → slot_at a i ≡ null) → IsTrue b → AreOwn b a from n
nulls_own a b from n h t i l r = subst (λ (s : Slot). IsOf (type_shape b (type_of a)) s) (sym (h i)) ((null_own b (type_of a)).1 t)

pub own_nulls : (a : ArrayTree) (b : Bool) (from n i : ℕ) → slot_at a i ≡ null → from ≤ i → i < from + n → AreOwn b a from n → IsTrue b
own_nulls a b from n i e l r h = (null_own b (type_of a)).0 (subst (λ (s : Slot). IsOf (type_shape b (type_of a)) s) e (h i l r))

pub none_own : (a : ArrayTree) (b : Bool) (from n : ℕ) → IsTrue (nat_eq n 0) → AreOwn b a from n
none_own a b from zero t i l r = absurd (omega (arith, l, r))
none_own a b from (suc n) t i l r = absurd (false≢true (sym (ne_eqb (suc n) 0 (λ e. omega (arith, e))) ∙ t))

pub own_none : (a : ArrayTree) (b : Bool) (from n : ℕ) → ((i : ℕ) → slot_at a i ≡ null) → b ≡ false → AreOwn b a from n → IsTrue (nat_eq n 0)
own_none a b from zero h e o = refl
own_none a b from (suc n) h e o = absurd (false≢true (sym e ∙ own_nulls a b from (suc n) from (h from) (omega arith) (omega arith) o))

-- ---- a mask

bit_hidden : (a : ArrayTree) (mask : List Bool) (i : ℕ) → mask_of a ≡ Some mask → i < length mask → slice_index_or mask i false ≡ false → slot_at a i ≡ null
bit_hidden a mask i e l z = hidden a i (rw e (sym (kept_bit mask i l) ∙ z))

pub bit_kept : (a : ArrayTree) (mask : List Bool) (i : ℕ) → mask_of a ≡ Some mask → i < length mask → slice_index_or mask i false ≡ true → keeps (mask_of a) i ≡ true
bit_kept a mask i e l z = rw e (sym (kept_bit mask i l) ∙ z)

fits : (m : Mask) (n : ℕ) (mask : List Bool) → MaskFits m n → m ≡ Some mask → length mask ≡ n
fits None n mask f e = absurd cc
fits (Some bits) n mask f e = let same : bits ≡ mask = cc in rw (← same) f

mask_fits : (a : ArrayTree) (mask : List Bool) → IsSound a → mask_of a ≡ Some mask → length mask ≡ tree_len a
mask_fits (null_array t n) mask s e = absurd cc
mask_fits (leaf_array t vs m) mask s e = fits m (length vs) mask s.0 e
mask_fits (list_array t os c m) mask s e = fits m (length os - 1) mask s.1 e
mask_fits (fixed_list_array t w n c m) mask s e = fits m n mask s.1 e
mask_fits (struct_array t cs m) mask s e = fits m (tree_len (struct_array t cs m)) mask s.1 e
mask_fits (dictionary_array t ks c m) mask s e = fits m (length ks) mask s.0 e

module _ (a : ArrayTree) (mask : List Bool) (b : Bool) (from n at kept : ℕ) (sound : IsSound a) (is : mask_of a ≡ Some mask) (within : from + n ≤ tree_len a) (begun : from ≤ at)
    (after : at ≤ kept) (inside : kept ≤ from + n) (alike : (i : ℕ) → at ≤ i → i < kept → slice_index_or mask i false ≡ false) where
  pub hidden_there : (i : ℕ) → at ≤ i → i < kept → slot_at a i ≡ null
  hidden_there i l r = bit_hidden a mask i is (omega (arith, mask_fits a mask sound is, within, inside, r)) (alike i l r)

  -- a null that is reached
  pub misses : at < kept → b ≡ false → AreOwn b a from n → IsTrue false
  misses some e h = sym e ∙ own_nulls a b from n at (hidden_there at (omega arith) some) begun (omega (arith, some, inside)) h

  -- nulls that may be there, and kept positions behind them
  pub run_more : (next : ℕ) → kept ≤ next → (((at < kept) × (b ≡ true)) ⊎ (kept ≤ at)) → AreOwn b a from (at - from) → AreOwn b a kept (next - kept) → AreOwn b a from (next - from)
  run_more next le may old new i l r =
      elim (cases_lt i at) [
        | inl lt ↦ old i l (omega (arith, lt, l))
        | inr ge ↦
            elim (cases_lt i kept) [
              | inl lt ↦ subst (λ (s : Slot). IsOf (type_shape b (type_of a)) s) (sym (hidden_there i ge lt)) ((null_own b (type_of a)).1 (nullable i ge lt may))
              | inr more ↦ new i more (omega (arith, r, le, more, begun, after))
            ]
      ]
    where
      nullable : (i : ℕ) → at ≤ i → i < kept → ((at < kept) × (b ≡ true)) ⊎ (kept ≤ at) → IsTrue b
      nullable i ge lt (inl h) = h.1
      nullable i ge lt (inr h) = absurd (omega (arith, ge, lt, h))

-- ---- chunks

even_long : (n : ℕ) (cs : ArrayTrees) → HaveLen n cs → AreLong n cs
even_long n no_arrays h = tt
even_long n (more_arrays c cs) h = (omega (arith, h.0), even_long n cs h.1)

pub chunk_long : (cs : ArrayTrees) → AreEven cs → AreLong (first_len cs) cs
chunk_long no_arrays h = tt
chunk_long (more_arrays c cs) h = (omega arith, even_long (tree_len c) cs h)
