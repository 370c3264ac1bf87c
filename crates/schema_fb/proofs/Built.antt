-- Vectors of objects that are built one after the other.
use Rattle.std.proofs.Common.{◌≡◌, ℕ, ◌+◌, ◌==◌, false, List, [], ◌∷◌, ◌++◌, length, map, String, Global, refl, sym, ap, ◌∙◌, append_assoc}
use Rattle.std.proofs.lemmas.List.{append-nil}
use Rattle.columns_core.specs.Meta.{Meta}
use Rattle.columns_core.specs.Tree.{FieldTree, FieldTrees, more_fields}
use Rattle.schema_fb.specs.Layout as layout
use Rattle.schema_fb.specs.Tables.{key_value, key_values, custom_metadata, field_dictionaries, field_object, fields_objects}
use Rattle.schema_fb.specs.declared.object.Cell.{Cell}
use Rattle.schema_fb.specs.declared.object.Object.{Object}
use Rattle.schema_fb.specs.Views.{objects_of, cell_view, cells_view, object_view, objects_view}

views_more : (done : List Object) (o : Object) → map object_view (done ++ o ∷ []) ≡ map object_view done ++ object_view o ∷ []
views_more [] o = refl
views_more (d ∷ done) o = ap (λ (os : List layout.Object). object_view d ∷ os) (views_more done o)

pub built_more : (done : List Object) (o : Object) (v : layout.Object) (left whole : List layout.Object) → object_view o ≡ v → map object_view done ++ v ∷ left ≡ whole → map object_view (done ++ o ∷ []) ++ left ≡ whole
built_more done o v left whole is so_far =
    ap (λ (os : List layout.Object). os ++ left) (views_more done o ∙ ap (λ (w : layout.Object). map object_view done ++ w ∷ []) is) ∙ append_assoc (map object_view done) (v ∷ []) left ∙ so_far

key_values_are : (m : Meta) → objects_of (map key_value m) ≡ key_values m
key_values_are [] = refl
key_values_are (e ∷ es) = ap (λ (os : layout.Objects). layout.more_objects (key_value e) os) (key_values_are es)

pub all_entries : (done : List Object) (m : Meta) → map object_view done ++ [] ≡ map key_value m → objects_view done ≡ key_values m
all_entries done m h = ap objects_of (sym (append-nil (map object_view done)) ∙ h) ∙ key_values_are m

-- ---- the vector of the entries

pub some_vector : (os : List Object) (m : Meta) → (length os == 0) ≡ false → objects_view os ≡ key_values m → layout.below (layout.vector (objects_view os)) ≡ custom_metadata m
some_vector [] [] some h = cc
some_vector (o ∷ os) [] some h = cc
some_vector os (e ∷ es) some h = ap (λ (os : layout.Objects). layout.below (layout.vector os)) h

abbrev pub Entry : Type 0
Entry = String Global × String Global

-- ---- objects and cells behind others

abbrev pub joined : List layout.Object → layout.Objects → layout.Objects
joined [] left = left
joined (o ∷ os) left = layout.more_objects o (joined os left)

pub joined_more : (done : List Object) (o : Object) (v : layout.Object) (left : layout.Objects) → object_view o ≡ v → joined (map object_view (done ++ o ∷ [])) left ≡ joined (map object_view done) (layout.more_objects v left)
joined_more [] o v left is = ap (λ (w : layout.Object). layout.more_objects w left) is
joined_more (d ∷ done) o v left is = ap (λ (os : layout.Objects). layout.more_objects (object_view d) os) (joined_more done o v left is)

pub joined_all : (os : List layout.Object) → joined os layout.no_objects ≡ objects_of os
joined_all [] = refl
joined_all (o ∷ os) = ap (λ (all : layout.Objects). layout.more_objects o all) (joined_all os)

abbrev pub put : layout.Cells → layout.Cell → layout.Cells
put layout.no_cells d = layout.more_cells d layout.no_cells
put (layout.more_cells c cs) d = layout.more_cells c (put cs d)

pub cells_put : (cs : List Cell) (c : Cell) → cells_view (cs ++ c ∷ []) ≡ put (cells_view cs) (cell_view c)
cells_put [] c = refl
cells_put (d ∷ cs) c = ap (λ (all : layout.Cells). layout.more_cells (cell_view d) all) (cells_put cs c)

pub pushed : (before after : List Cell) (c : Cell) (vs : layout.Cells) (v : layout.Cell) → after ≡ before ++ c ∷ [] → cells_view before ≡ vs → cell_view c ≡ v → cells_view after ≡ put vs v
pushed before after c vs v push p q = ap cells_view push ∙ cells_put before c ∙ ap (λ (cs : layout.Cells). put cs (cell_view c)) p ∙ ap (put vs) q

-- one more field's object
pub fields_step : (done after : List Object) (o : Object) (id next n : ℕ) (v : FieldTree) (left rest : FieldTrees) (whole : layout.Objects) → left ≡ more_fields v rest → object_view o ≡ field_object id v → next ≡ id + n → n ≡ field_dictionaries v
    → after ≡ done ++ o ∷ [] → joined (map object_view done) (fields_objects id left) ≡ whole → joined (map object_view after) (fields_objects next rest) ≡ whole
fields_step done after o id next n v left rest whole is object later counted push so_far =
    let id_is : next ≡ id + field_dictionaries v = later ∙ ap (λ (k : ℕ). id + k) counted in
    ap (λ (os : List Object). joined (map object_view os) (fields_objects next rest)) push ∙ joined_more done o (field_object id v) (fields_objects next rest) object
    ∙ ap (λ (k : ℕ). joined (map object_view done) (layout.more_objects (field_object id v) (fields_objects k rest))) id_is
    ∙ ap (λ (fs : FieldTrees). joined (map object_view done) (fields_objects id fs)) (sym is) ∙ so_far
