-- The fields and the arrays of a struct, one after another.
use Rattle.std.proofs.Common.{Option, Some, None, ◌≡◌, ◌↔◌, ℕ, zero, suc, ◌+◌, ◌<◌, List, [], ◌∷◌, length, drop, get_or, add-one, refl, ap, sym, subst, ◌∙◌, arith}
use Rattle.std.proofs.Math.Seq.{drop-cons}
use Rattle.columns_core.specs.Tree.{TypeTree, t_struct, FieldTree, field, FieldTrees, no_fields, more_fields}
use Rattle.columns_core.specs.View.{type_view, field_view, fields_view, type_step, field_step}
use Rattle.columns_core.specs.declared.types.Field.{Field, out-Field, fold_out-Field}
use Rattle.columns_slots.specs.Tree.{Mask, ArrayTree, ArrayTrees, no_arrays, more_arrays}
use Rattle.columns_slots.specs.Slots.{type_of, tree_len, first_len, count_arrays, AreTyped, AreSound, IsSound}
use Rattle.shredding.specs.Parts.{MaskFits}
use Rattle.columns_array.specs.Fits.{FitParts}
use Rattle.columns_slots.specs.Types.{fields_in, part_types}
use Rattle.columns_array.specs.Boxed.{boxed, all_boxed}
use Rattle.columns_array.specs.declared.arrays.ArrayBox.{ArrayBox}

pub parts_typed : (n : ℕ) (fs : FieldTrees) (cs : ArrayTrees) → FitParts n fs cs → AreTyped fs cs
parts_typed n no_fields no_arrays h = tt
parts_typed n no_fields (more_arrays c cs) h = absurd h
parts_typed n (more_fields (field u t b m) fs) no_arrays h = absurd h
parts_typed n (more_fields (field u t b m) fs) (more_arrays c cs) h = (h.0, parts_typed n fs cs h.2)

-- what is tested of one field and its array
abbrev pub FitsOne : ℕ → Field → ArrayBox → Type 0
FitsOne n f b = (type_view (out-Field f).data_type ≡ type_of (boxed b)) × (tree_len (boxed b) ≡ n)

view_out : (b : Field) → field_view b ≡ field_step (record { name = (out-Field b).name; data_type = type_view (out-Field b).data_type; is_nullable = (out-Field b).is_nullable; metadata = (out-Field b).metadata })
view_out b = fold_out-Field TypeTree FieldTree type_step field_step b

one_more : (n : ℕ) (f : Field) (b : ArrayBox) (fs : FieldTrees) (cs : ArrayTrees) → FitParts n (more_fields (field_view f) fs) (more_arrays (boxed b) cs) ↔ (FitsOne n f b × FitParts n fs cs)
one_more n f b fs cs = rw (view_out f) (λ h. ((h.0, h.1), h.2), λ h. (h.0.0, h.0.1, h.1))

pub step : (n : ℕ) (fs : List Field) (vs : List ArrayBox) (i : ℕ) (f : Field) (b : ArrayBox) → i < length fs → i < length vs
    → FitParts n (fields_view (drop i fs)) (all_boxed (drop i vs)) ↔ (FitsOne n (get_or fs i f) (get_or vs i b) × FitParts n (fields_view (drop (i + 1) fs)) (all_boxed (drop (i + 1) vs)))
step n fs vs i f b h k =
    rw (add-one i, drop-cons fs i f h, drop-cons vs i b k) (one_more n (get_or fs i f) (get_or vs i b) (fields_view (drop (suc i) fs)) (all_boxed (drop (suc i) vs)))

pub sound_step : (n : ℕ) (vs : List ArrayBox) (i : ℕ) (b : ArrayBox) → i < length vs → IsSound (boxed (get_or vs i b)) → tree_len (boxed (get_or vs i b)) ≡ n → AreSound n (all_boxed (drop (i + 1) vs)) → AreSound n (all_boxed (drop i vs))
sound_step n vs i b k s l h = rw (drop-cons vs i b k) (s, l, subst (λ j. AreSound n (all_boxed (drop j vs))) (add-one i) h)

pub step_at : (n : ℕ) (fs : List Field) (vs : List ArrayBox) (i : ℕ) (f : Field) (b : ArrayBox) → i < length fs → i < length vs → f ≡ get_or fs i f → b ≡ get_or vs i b
    → FitParts n (fields_view (drop i fs)) (all_boxed (drop i vs)) ↔ (FitsOne n f b × FitParts n (fields_view (drop (i + 1) fs)) (all_boxed (drop (i + 1) vs)))
step_at n fs vs i f b h k e d =
    subst (λ x. FitParts n (fields_view (drop i fs)) (all_boxed (drop i vs)) ↔ (FitsOne n x b × FitParts n (fields_view (drop (i + 1) fs)) (all_boxed (drop (i + 1) vs)))) (sym e)
    (subst (λ y. FitParts n (fields_view (drop i fs)) (all_boxed (drop i vs)) ↔ (FitsOne n (get_or fs i f) y × FitParts n (fields_view (drop (i + 1) fs)) (all_boxed (drop (i + 1) vs)))) (sym d) (step n fs vs i f b h k))

pub sound_at : (n : ℕ) (vs : List ArrayBox) (i : ℕ) (b : ArrayBox) → i < length vs → b ≡ get_or vs i b → IsSound (boxed b) → tree_len (boxed b) ≡ n → AreSound n (all_boxed (drop (i + 1) vs)) → AreSound n (all_boxed (drop i vs))
sound_at n vs i b k d s l h = sound_step n vs i b k (subst (λ x. IsSound (boxed x)) d s) (subst (λ x. tree_len (boxed x) ≡ n) d l) h

no_parts : (n : ℕ) (f : FieldTree) (fs : FieldTrees) → FitParts n (more_fields f fs) no_arrays → ⊥
no_parts n (field u t b m) fs h = h

pub fit_len : (n : ℕ) (fs : List Field) (vs : List ArrayBox) → FitParts n (fields_view fs) (all_boxed vs) → length fs ≡ length vs
fit_len n [] [] h = refl
fit_len n [] (v ∷ vs) h = absurd h
fit_len n (f ∷ fs) [] h = absurd (no_parts n (field_view f) (fields_view fs) h)
fit_len n (f ∷ fs) (v ∷ vs) h = ap suc (fit_len n fs vs ((one_more n f v (fields_view fs) (all_boxed vs)).0 h).1)

pub first_is : (vs : List ArrayBox) (b : ArrayBox) → 0 < length vs → b ≡ get_or vs 0 b → first_len (all_boxed vs) ≡ tree_len (boxed b)
first_is [] b h e = absurd (omega (arith, h))
first_is (v ∷ vs) b h e = ap (λ x. tree_len (boxed x)) (sym e)

pub some_arrays : (vs : List ArrayBox) → 0 < length vs → 0 < count_arrays (all_boxed vs)
some_arrays [] h = absurd (omega (arith, h))
some_arrays (v ∷ vs) h = omega arith

abbrev some_fields : Option FieldTrees → FieldTrees
some_fields None = no_fields
some_fields (Some fs) = fs

never : {fs : FieldTrees} {A : Type 0} → Some fs ≡ None → A
never e = cc

fields_part : (t : TypeTree) (fs : FieldTrees) → Some fs ≡ fields_in t → fs ≡ part_types t
fields_part (t_struct gs) fs p = ap some_fields p
fields_part t fs p = never p

-- what the constructor tested makes the array sound
pub struct_made : (t : TypeTree) (fs : FieldTrees) (vs : List ArrayBox) (b : ArrayBox) (m : Mask) (n : ℕ) → 0 < length vs → b ≡ get_or vs 0 b → n ≡ tree_len (boxed b) → Some fs ≡ fields_in t
    → FitParts n fs (all_boxed vs) → AreSound n (all_boxed vs) → MaskFits m n
    → (n ≡ first_len (all_boxed vs)) × (AreSound (first_len (all_boxed vs)) (all_boxed vs) × MaskFits m (first_len (all_boxed vs)) × AreTyped (part_types t) (all_boxed vs) × (0 < count_arrays (all_boxed vs)))
struct_made t fs vs b m n h e l p f s k =
    let is : n ≡ first_len (all_boxed vs) = l ∙ sym (first_is vs b h e) in (
      is,
      (
        subst (λ j. AreSound j (all_boxed vs)) is s,
        subst (MaskFits m) is k,
        subst (λ r. AreTyped r (all_boxed vs)) (fields_part t fs p) (parts_typed n fs (all_boxed vs) f),
        some_arrays vs h,
      ),
    )
