-- The encodings that are chosen are ones in which pages are written.
use Rattle.std.proofs.Common.{◌≡◌, ◌<◌, ◌≤◌, ℕ, Bool, true, false, true≢false, cond, inl, inr, Some, List, [], ◌∷◌, refl, sym, ap, subst, ◌∙◌, arith}
use Rattle.std.specs.Prelude.{◌&&◌, ◌||◌, leb}
use Rattle.std.proofs.lemmas.Bool.{le-leb}
use Rattle.std.proofs.lemmas.Bool.Decides.{leb_tells}
use Rattle.shredding.specs.Shape.{LeafType, nothing, truths, text, binary, signed, unsigned, fixed_bytes, decimal, months, days}
use Rattle.columns_core.specs.Shapes.{base, leaf_type}
use Rattle.columns_core.specs.Tree.{TypeTree, t_null, t_int8, t_int16, t_int32, t_int64, t_uint8, t_uint16, t_uint32, t_uint64, t_date32, t_date64, t_time32, t_time64, t_timestamp, t_duration, t_utf8, t_large_utf8, t_binary, t_large_binary, t_list, t_large_list, t_map, t_fixed_size_list, t_struct, t_decimal, t_extension}
use Rattle.columns_slots.specs.Slots.{IsSound, AreTyped, count_arrays, type_of}
use Rattle.columns_slots.specs.Tree.{ArrayTree, null_array, leaf_array, list_array, fixed_list_array, struct_array, dictionary_array, ArrayTrees, no_arrays, more_arrays}
use Rattle.columns_slots.specs.Types.{is_leaf, is_null_type, list_item, fixed_item, part_types}
use Rattle.nested_paths.specs.Leaves.{array_leaves}
use Rattle.pq_files.specs.Layout.{delta_of}
use Rattle.pq_files.specs.Page.{Encoding, plain}
use Rattle.pq_tree.specs.Physical.{Physical, boolean, int32, int64, byte_array, fixed}
use Rattle.pq_tree.specs.Tree.{Leaf}
use Rattle.pq_tree.specs.declared.types.Encoding.{Encoding as RustEncoding}
use Rattle.schema_to_tree.specs.Encodes.{is_delta, is_strings}
use Rattle.schema_to_tree.specs.Length.{decimal_length}
use Rattle.schema_to_tree.specs.Table.{decimal_physical, stored_as}
use Rattle.write_values.specs.Deltas.{encoding_name}
use Rattle.write_values.specs.Served.{is_small, is_wide, is_string, is_decimal, is_served}
use Rattle.write_pages.specs.Fits.{is_written_as}
use Rattle.write_groups.specs.Laid.{field_encoding}

-- ---- types that are served have the deltas of their physical type

small_delta : (t : TypeTree) → is_small t ≡ true → is_delta t ≡ true
small_delta t_null e = refl
small_delta t_int8 e = refl
small_delta t_int16 e = refl
small_delta t_int32 e = refl
small_delta t_uint8 e = refl
small_delta t_uint16 e = refl
small_delta t_uint32 e = refl
small_delta t_date32 e = refl
small_delta (t_time32 u) e = refl
small_delta t e = absurd (true≢false (sym e))

wide_delta : (t : TypeTree) → is_wide t ≡ true → is_delta t ≡ true
wide_delta t_uint32 e = refl
wide_delta t_int64 e = refl
wide_delta t_uint64 e = refl
wide_delta t_date64 e = refl
wide_delta (t_time64 u) e = refl
wide_delta (t_timestamp u zone_name) e = refl
wide_delta (t_duration u) e = refl
wide_delta t e = absurd (true≢false (sym e))

string_deltas : (t : TypeTree) → is_string t ≡ true → is_strings t ≡ true
string_deltas t_utf8 e = refl
string_deltas t_large_utf8 e = refl
string_deltas t_binary e = refl
string_deltas t_large_binary e = refl
string_deltas t e = absurd (true≢false (sym e))

is_least : (k n : ℕ) → leb k n ≡ true → k ≤ n
is_least k n e = elim (leb_tells k n) [ inl h ↦ h.1 | inr h ↦ absurd (let f = sym h.0 ∙ e in cc) ]

first_holds : (a b : Bool) → b ≡ false → (a || b) ≡ true → a ≡ true
first_holds true b d s = refl
first_holds false b d s = absurd (true≢false (sym s ∙ d))

module _ (t : TypeTree) where
  narrow : (l : LeafType) → is_small (base t) ≡ true → is_written_as (encoding_name (delta_of l int32)) t int32 ≡ true
  narrow nothing s = refl
  narrow truths s = small_delta (base t) s
  narrow text s = small_delta (base t) s
  narrow binary s = small_delta (base t) s
  narrow (signed w) s = small_delta (base t) s
  narrow (unsigned w) s = small_delta (base t) s
  narrow (fixed_bytes w) s = small_delta (base t) s
  narrow decimal s = small_delta (base t) s
  narrow months s = small_delta (base t) s
  narrow days s = small_delta (base t) s

  wide : (l : LeafType) → is_wide (base t) ≡ true → is_written_as (encoding_name (delta_of l int64)) t int64 ≡ true
  wide nothing s = refl
  wide truths s = wide_delta (base t) s
  wide text s = wide_delta (base t) s
  wide binary s = wide_delta (base t) s
  wide (signed w) s = wide_delta (base t) s
  wide (unsigned w) s = wide_delta (base t) s
  wide (fixed_bytes w) s = wide_delta (base t) s
  wide decimal s = wide_delta (base t) s
  wide months s = wide_delta (base t) s
  wide days s = wide_delta (base t) s

  string : (l : LeafType) → is_string (base t) ≡ true → is_written_as (encoding_name (delta_of l byte_array)) t byte_array ≡ true
  string nothing s = refl
  string truths s = string_deltas (base t) s
  string text s = string_deltas (base t) s
  string binary s = string_deltas (base t) s
  string (signed w) s = string_deltas (base t) s
  string (unsigned w) s = string_deltas (base t) s
  string (fixed_bytes w) s = string_deltas (base t) s
  string decimal s = string_deltas (base t) s
  string months s = string_deltas (base t) s
  string days s = string_deltas (base t) s

  truth : (l : LeafType) → is_written_as (encoding_name (delta_of l boolean)) t boolean ≡ true
  truth nothing = refl
  truth truths = refl
  truth text = refl
  truth binary = refl
  truth (signed w) = refl
  truth (unsigned w) = refl
  truth (fixed_bytes w) = refl
  truth decimal = refl
  truth months = refl
  truth days = refl

  fixed_length : (n : ℕ) (l : LeafType) → is_written_as (encoding_name (delta_of l (fixed n))) t (fixed n) ≡ true
  fixed_length n nothing = refl
  fixed_length n truths = refl
  fixed_length n text = refl
  fixed_length n binary = refl
  fixed_length n (signed w) = refl
  fixed_length n (unsigned w) = refl
  fixed_length n (fixed_bytes w) = refl
  fixed_length n decimal = refl
  fixed_length n months = refl
  fixed_length n days = refl

  -- decimals of at most 18 digits are stored as numbers
  decimal_deltas : (small middle : Bool) (p q n : ℕ) → base t ≡ t_decimal p q → leb p 9 ≡ small → leb p 18 ≡ middle → is_written_as (encoding_name (delta_of decimal (cond small int32 (cond middle int64 (fixed n))))) t (cond small int32 (cond middle int64 (fixed n))) ≡ true
  decimal_deltas true middle p q n e a b = ap is_delta e ∙ le-leb p 18 (omega (arith, is_least p 9 a))
  decimal_deltas false true p q n e a b = ap is_delta e ∙ b
  decimal_deltas false false p q n e a b = refl

  number_deltas : (p : Physical) → is_decimal (base t) ≡ false → is_served (base t) p ≡ true → is_written_as (encoding_name (delta_of (leaf_type t) p)) t p ≡ true
  number_deltas int32 d s = narrow (leaf_type t) (first_holds (is_small (base t)) (is_decimal (base t)) d s)
  number_deltas int64 d s = wide (leaf_type t) (first_holds (is_wide (base t)) (is_decimal (base t)) d s)
  number_deltas byte_array d s = string (leaf_type t) s
  number_deltas boolean d s = truth (leaf_type t)
  number_deltas (fixed n) d s = fixed_length n (leaf_type t)
  number_deltas p d s = absurd (true≢false (sym s))

same_kind : (t : TypeTree) (a b : ℕ) → base t ≡ t_decimal a b → leaf_type t ≡ decimal
same_kind (t_extension n t m) a b e = same_kind t a b e
same_kind (t_decimal x y) a b e = refl
same_kind t a b e = absurd cc

deltas_written : (t : TypeTree) (p : Physical) → p ≡ (stored_as (base t)).physical → is_served (base t) p ≡ true → is_written_as (encoding_name (delta_of (leaf_type t) p)) t p ≡ true
deltas_written t p own s = by (base t) refl
  where
    by : (k : TypeTree) → base t ≡ k → is_written_as (encoding_name (delta_of (leaf_type t) p)) t p ≡ true
    by (t_decimal a b) e =
        let kind : leaf_type t ≡ decimal = same_kind t a b e in
        let physical : p ≡ decimal_physical a = own ∙ ap (λ (x : TypeTree). (stored_as x).physical) e in
        subst (λ (x : Physical). is_written_as (encoding_name (delta_of (leaf_type t) x)) t x ≡ true) (sym physical)
        (subst (λ (x : LeafType). is_written_as (encoding_name (delta_of x (decimal_physical a))) t (decimal_physical a) ≡ true) (sym kind) (decimal_deltas t (leb a 9) (leb a 18) a b (decimal_length a) e refl refl))
    by k e = number_deltas t p (ap is_decimal e) s

-- where deltas are chosen or not
pub choice_written : (b : Bool) (t : TypeTree) (p : Physical) → p ≡ (stored_as (base t)).physical → is_served (base t) p ≡ true → is_written_as (encoding_name (cond b (delta_of (leaf_type t) p) plain)) t p ≡ true
choice_written true t p own s = deltas_written t p own s
choice_written false t p own s = refl

-- ---- the array of a leaf type is its only leaf

no_nulls : (t : TypeTree) → is_leaf t ≡ true → is_null_type t ≡ true → ⊥
no_nulls t_null e n = true≢false (sym e)
no_nulls t e n = absurd (true≢false (sym n))

no_items : (t i : TypeTree) → is_leaf t ≡ true → list_item t ≡ Some i → ⊥
no_items (t_list f) i e n = true≢false (sym e)
no_items (t_large_list f) i e n = true≢false (sym e)
no_items (t_map f s) i e n = true≢false (sym e)
no_items t i e n = absurd cc

no_fixed_items : (t i : TypeTree) → is_leaf t ≡ true → fixed_item t ≡ Some i → ⊥
no_fixed_items (t_fixed_size_list f k) i e n = true≢false (sym e)
no_fixed_items t i e n = absurd cc

no_parts : (t : TypeTree) (cs : ArrayTrees) → is_leaf t ≡ true → AreTyped (part_types t) cs → 0 < count_arrays cs → ⊥
no_parts (t_struct fs) cs e h k = true≢false (sym e)
no_parts t no_arrays e h k = absurd (omega (arith, k))
no_parts t (more_arrays c cs) e h k = absurd h

pub only_leaf : (a : ArrayTree) → IsSound a → is_leaf (base (type_of a)) ≡ true → array_leaves a ≡ a ∷ []
only_leaf (null_array t n) h e = refl
only_leaf (leaf_array t vs m) h e = refl
only_leaf (dictionary_array t ks c m) h e = refl
only_leaf (list_array t os c m) h e = absurd (no_items (base t) (type_of c) e h.3)
only_leaf (fixed_list_array t w n c m) h e = absurd (no_fixed_items (base t) (type_of c) e h.3)
only_leaf (struct_array t cs m) h e = absurd (no_parts (base t) cs e h.2 h.3)

-- ---- the names of the encodings of a field's leaves

-- a leaf of the array, stored as its type is, is written in the encoding of this name
abbrev pub IsNamed : Leaf → ArrayTree → (Leaf → RustEncoding) → Type 0
IsNamed l a named = l.physical ≡ (stored_as (base (type_of a))).physical → is_served (base (type_of a)) l.physical ≡ true → is_written_as (named l) (type_of a) l.physical ≡ true

abbrev pub AreNamed : List Leaf → List ArrayTree → (Leaf → RustEncoding) → Type 0
AreNamed (l ∷ ls) (a ∷ arrays) named = IsNamed l a named × AreNamed ls arrays named
AreNamed _ _ named = Unit {0}

choice_is_plain : (wanted b : Bool) (x : Encoding) → b ≡ false → cond (wanted && b) x plain ≡ plain
choice_is_plain true b x e = ap (λ (k : Bool). cond k x plain) e
choice_is_plain false b x e = refl

module _ (wanted : Bool) (t : TypeTree) where
  abbrev names : Leaf → RustEncoding
  names l = encoding_name (field_encoding wanted t l)

  own_named : (l : Leaf) (a : ArrayTree) → type_of a ≡ t → IsNamed l a names
  own_named l a e o s =
      subst (λ (x : TypeTree). is_written_as (names l) x l.physical ≡ true) (sym e)
      (choice_written (wanted && is_leaf (base t)) t l.physical (subst (λ (x : TypeTree). l.physical ≡ (stored_as (base x)).physical) e o) (subst (λ (x : TypeTree). is_served (base x) l.physical ≡ true) e s))

  -- a field's own leaf
  alone : (ls : List Leaf) (a : ArrayTree) → type_of a ≡ t → AreNamed ls (a ∷ []) names
  alone [] a e = tt
  alone (l ∷ []) a e = (own_named l a e, tt)
  alone (l ∷ k ∷ ls) a e = (own_named l a e, tt)

  -- leaves of another field
  nested : (ls : List Leaf) (arrays : List ArrayTree) → is_leaf (base t) ≡ false → AreNamed ls arrays names
  nested [] arrays e = tt
  nested (l ∷ ls) [] e = tt
  nested (l ∷ ls) (a ∷ arrays) e =
      (λ o s. ap (λ (x : Encoding). is_written_as (encoding_name x) (type_of a) l.physical) (choice_is_plain wanted (is_leaf (base t)) (delta_of (leaf_type t) l.physical) e), nested ls arrays e)

pub field_named : (wanted : Bool) (ls : List Leaf) (a : ArrayTree) → IsSound a → AreNamed ls (array_leaves a) (names wanted (type_of a))
field_named wanted ls a h = by_type (is_leaf (base (type_of a))) refl
  where
    by_type : (b : Bool) → is_leaf (base (type_of a)) ≡ b → AreNamed ls (array_leaves a) (names wanted (type_of a))
    by_type true e = subst (λ (arrays : List ArrayTree). AreNamed ls arrays (names wanted (type_of a))) (sym (only_leaf a h e)) (alone wanted (type_of a) ls a refl)
    by_type false e = nested wanted (type_of a) ls (array_leaves a) e
