-- The bones of a field, and those beneath a place.
use Rattle.std.proofs.Common.{◌≡◌, ℕ, suc, zero, ◌<◌, ◌+◌, Bool, true, false, Option, Some, None, List, [], ◌∷◌, length, get_or, drop, string_bytes, not, sym, ap, ◌∙◌, arith, rules, true≢false}
use Rattle.std.specs.Prelude.{Box}
use Rattle.std.specs.Global.{Global}
use Rattle.std.specs.Option.{is_some}
use Rattle.columns_core.specs.Tree.{TypeTree, FieldTree, field, t_list, t_large_list, t_map}
use Rattle.columns_core.specs.View.{type_view, field_view, fields_view, type_step, field_step}
use Rattle.columns_core.specs.declared.types.DataType.{the_lemmas}
use Rattle.columns_core.specs.declared.types.DataType.TheVariants as D
use Rattle.columns_core.specs.declared.types.Field.{Field, out-Field, fold_out-Field}
use Rattle.pq_tree.specs.Types.{required, optional}
use Rattle.schema_fit.specs.declared.place.Found.{Found}
use Rattle.schema_fit.specs.Places.{found_bone, Steps}
use Rattle.schema_fit.specs.Skeleton.{Bone, Bones, bone, and_then, under, repetition_of, StoredLeaf, type_bones, field_bones, fields_bones, same_bones}
use Rattle.schema_fit.specs.Walk.{behind, Eats}
use Rattle.schema_fit.proofs.Behind.{under_required, same_end, same_more}

view_out : (f : Field) → field_view f ≡ field (string_bytes (out-Field f).name) (type_view (out-Field f).data_type) (out-Field f).is_nullable (out-Field f).metadata
view_out f = fold_out-Field TypeTree FieldTree type_step field_step f

pub field_is : (f : Field) → field_bones (field_view f) ≡ under (repetition_of (out-Field f).is_nullable) (type_bones (out-Field f).is_nullable (type_view (out-Field f).data_type))
field_is f = ap field_bones (view_out f)

pub field_required : (f : Field) → (out-Field f).is_nullable ≡ false → field_bones (field_view f) ≡ type_bones false (type_view (out-Field f).data_type)
field_required f e = field_is f ∙ ap (λ b. under (repetition_of b) (type_bones b (type_view (out-Field f).data_type))) e ∙ under_required (type_bones false (type_view (out-Field f).data_type))

pub field_optional : (f : Field) → (out-Field f).is_nullable ≡ true → field_bones (field_view f) ≡ under optional (type_bones true (type_view (out-Field f).data_type))
field_optional f e = field_is f ∙ ap (λ b. under (repetition_of b) (type_bones b (type_view (out-Field f).data_type))) e

pub fields_at : (fs : List Field) (i : ℕ) (f : Field) → i < length fs → f ≡ get_or fs i f → fields_bones (fields_view (drop i fs)) ≡ and_then (field_bones (field_view f)) (fields_bones (fields_view (drop (i + 1) fs)))
fields_at fs i f h e = by fs i h e ∙ ap (λ k. and_then (field_bones (field_view f)) (fields_bones (fields_view (drop k fs)))) (let s : suc i ≡ i + 1 = omega arith in s)
  where
    by : (fs : List Field) (i : ℕ) → i < length fs → f ≡ get_or fs i f → fields_bones (fields_view (drop i fs)) ≡ and_then (field_bones (field_view f)) (fields_bones (fields_view (drop (suc i) fs)))
    by [] i h e = absurd (omega arith)
    by (g ∷ gs) zero h e = ap (λ x. and_then (field_bones (field_view x)) (fields_bones (fields_view gs))) (sym e)
    by (g ∷ gs) (suc i) h e = by gs i (omega arith) e

module _ {A : Type 0} (g : A → StoredLeaf → Bool) where
  pub eats_false : (found : Bool) (xs : Bones A) (old new : Bones StoredLeaf) → found ≡ false → Eats g found xs old new → behind g xs old ≡ None
  eats_false true xs old new e h = absurd (true≢false e)
  eats_false false xs old new e h = h

  pub eats_true : (found : Bool) (xs : Bones A) (old new : Bones StoredLeaf) → found ≡ true → Eats g found xs old new → behind g xs old ≡ Some new
  eats_true true xs old new e h = h
  eats_true false xs old new e h = absurd (true≢false (sym e))

  -- nothing is left, or something is
  pub inside_ends : (o : Option Found) (b : Bool) (xs : Bones A) (ys old mid after : Bones StoredLeaf) → is_some o ≡ not b → Steps o mid after → old ≡ ys → behind g xs old ≡ Some mid → b ≡ same_bones g xs ys
  inside_ends None true xs ys old mid after n s same e = same_end g xs ys old mid same e s
  inside_ends None false xs ys old mid after n s same e = absurd (true≢false (sym n))
  inside_ends (Some f) true xs ys old mid after n s same e = absurd (true≢false n)
  inside_ends (Some f) false xs ys old mid after n s same e = same_more g xs ys old mid (found_bone f) after same e s

-- ---- types that repeat a field

pub list_view : (item : Box Field Global) → type_view (D.List item) ≡ t_list (field_view item.value)
list_view item = search (the_lemmas, rules)

pub large_list_view : (item : Box Field Global) → type_view (D.LargeList item) ≡ t_large_list (field_view item.value)
large_list_view item = search (the_lemmas, rules)

pub map_view : (entry : Box Field Global) (s : Bool) → type_view (D.Map entry s) ≡ t_map (field_view entry.value) s
map_view entry s = search (the_lemmas, rules)
