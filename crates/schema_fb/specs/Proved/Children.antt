-- The fields to which a slot of a field's table leads are read, where each field is.
use Rattle.std.proofs.Common.{◌≡◌, ℕ, ◌+◌, ◌≤◌, Bool, true, false, cond, List, [], ◌∷◌, length, Option, Some, None, IfSome, refl, ap, ◌∙◌, arith}
use Rattle.std.specs.Prelude.{ℤ}
use Rattle.std.proofs.lemmas.List.{length-append}
use Rattle.columns_core.specs.Measures.{field_nesting, fields_nesting}
use Rattle.columns_core.specs.Tree.{TypeTree, t_struct, t_union, FieldTree, FieldTrees, no_fields, more_fields}
use Rattle.columns_core.specs.View.{fields_of}
use Rattle.schema_codec.specs.Parse.{◌>>=◌}
use Rattle.schema_codec.specs.Ranges.{AreIds, FieldHasRanges, FieldsHaveRanges}
use Rattle.schema_codec.specs.Reading.{truth_of}
use Rattle.schema_fb.specs.Layout.{number, Cells, no_cells, numbers, vector, count, front, object_bytes, objects_bytes}
use Rattle.schema_fb.specs.Places.{short_at, Table, over, numbers_in, items_at, items_in, number_in}
use Rattle.schema_fb.specs.Reading.{Reads, children_in, child_in, union_in}
use Rattle.schema_fb.specs.Tables.{one, two, optional_numbers, field_dictionaries, field_object, fields_objects, is_field, are_fields}
use Rattle.schema_fb.specs.Proved.Standing.{At, Lead, numbers_stand, vector_stands}
use Rattle.schema_fb.specs.Proved.Entries.{follows}
use Rattle.schema_fb.specs.Proved.Bases.{both_hold}
use Rattle.schema_fb.specs.Proved.Slots.{Small, Costs, over_costs, costs_of, Slotted, Points, more_slots, number_slot, below_slot, absent_slot, short_in}

-- ---- lists of fields

abbrev pub list_of : FieldTrees → List FieldTree
list_of no_fields = []
list_of (more_fields f fs) = f ∷ list_of fs

pub fields_of-list_of : (fs : FieldTrees) → fields_of (list_of fs) ≡ fs
fields_of-list_of no_fields = refl
fields_of-list_of (more_fields f fs) = ap (more_fields f) (fields_of-list_of fs)

-- what a field's object has to be read again
abbrev pub FieldFits : ℕ → FieldTree → Type 0
FieldFits d f = (is_field f ≡ true) × FieldHasRanges f × (field_nesting f ≤ d)

abbrev pub FieldsFit : ℕ → FieldTrees → Type 0
FieldsFit d fs = (are_fields fs ≡ true) × FieldsHaveRanges fs × (fields_nesting fs ≤ d)

-- the objects of fields that fit are read
abbrev pub Again : Reads FieldTree → List ℕ → ℕ → Type 0
Again read b d = (id : ℕ) (f : FieldTree) (p left : ℕ) → FieldFits d f → At b p (field_object id f) → length (object_bytes (field_object id f)) ≤ left
    → Costs (read (p + front (field_object id f)) left) f left (length (object_bytes (field_object id f)))

pub first_fits : (d : ℕ) (f : FieldTree) (fs : FieldTrees) → FieldsFit d (more_fields f fs) → FieldFits d f
first_fits d f fs fit = ((both_hold (is_field f) (are_fields fs) fit.0).0, fit.1.0, omega (arith, fit.2))

pub others_fit : (d : ℕ) (f : FieldTree) (fs : FieldTrees) → FieldsFit d (more_fields f fs) → FieldsFit d fs
others_fit d f fs fit = ((both_hold (is_field f) (are_fields fs) fit.0).1, fit.1.1, omega (arith, fit.2))

pub items_again : (read : Reads FieldTree) (b : List ℕ) (d : ℕ) → Again read b d → (fs : FieldTrees) (id place start left : ℕ) → FieldsFit d fs → Lead b place start (fields_objects id fs) → length (objects_bytes (fields_objects id fs)) ≤ left
    → Costs (items_at read b (count (fields_objects id fs)) place left) (list_of fs) left (length (objects_bytes (fields_objects id fs)))
unfolding items_at
items_again read b d again no_fields id place start left fit leads enough = (left, refl, omega arith)
items_again read b d again (more_fields f fs) id place start left fit leads enough =
    let sum = length-append (object_bytes (field_object id f)) (objects_bytes (fields_objects (id + field_dictionaries f) fs)) in
    let here = again id f start left (first_fits d f fs fit) leads.1 (omega (arith, sum)) in
    let there = items_again read b d again fs (id + field_dictionaries f) (place + 4) (start + length (object_bytes (field_object id f))) here.0 (others_fit d f fs fit) leads.2 (omega (arith, sum, here.2)) in
    (there.0, rw (leads.0, here.1, there.1) refl, omega (arith, sum, here.2, there.2))

-- ---- the children of a field

pub vector_again : (read : Reads FieldTree) (b : List ℕ) (d : ℕ) → Small b → Again read b d → (fs : FieldTrees) (parent : Table) (i id left : ℕ) → FieldsFit d fs → Points b parent i (vector (fields_objects id fs))
    → length (objects_bytes (fields_objects id fs)) ≤ left → Costs (items_in read b parent i left) (list_of fs) left (length (objects_bytes (fields_objects id fs)))
unfolding items_in
vector_again read b d long again fs parent i id left fit p enough =
    let stands = vector_stands b p.0 (fields_objects id fs) long p.4 in
    let got = items_again read b d again fs id (p.0 + 4) _ left fit stands.1 enough in
    (got.0, rw (p.2, follows b p.1 p.0 p.3, stands.0) got.1, got.2)

-- exactly one
pub child_again : (read : Reads FieldTree) (b : List ℕ) (d : ℕ) → Small b → Again read b d → (f : FieldTree) (parent : Table) (id left : ℕ) → FieldFits d f → Points b parent 5 (vector (fields_objects id (more_fields f no_fields)))
    → length (objects_bytes (fields_objects id (more_fields f no_fields))) ≤ left → Costs (child_in read b parent left) f left (length (objects_bytes (fields_objects id (more_fields f no_fields))))
unfolding child_in
child_again read b d long again f parent id left fit p enough =
    let fits : FieldsFit d (more_fields f no_fields) = (rw fit.0 refl, (fit.1, tt), omega (arith, fit.2)) in
    let got = vector_again read b d long again (more_fields f no_fields) parent 5 id left fits p enough in
    (got.0, rw got.1 refl, got.2)

pub struct_again : (read : Reads FieldTree) (b : List ℕ) (d : ℕ) → Small b → Again read b d → (fs : FieldTrees) (parent : Table) (id left : ℕ) → FieldsFit d fs → Points b parent 5 (vector (fields_objects id fs))
    → length (objects_bytes (fields_objects id fs)) ≤ left → Costs (over (λ fields. t_struct (fields_of fields)) (children_in read b parent left)) (t_struct fs) left (length (objects_bytes (fields_objects id fs)))
struct_again read b d long again fs parent id left fit p enough =
    let got = vector_again read b d long again fs parent 5 id left fit p enough in
    costs_of _ _ (t_struct fs) left _ (ap t_struct (fields_of-list_of fs)) (over_costs (λ (gs : List FieldTree). t_struct (fields_of gs)) (children_in read b parent left) (list_of fs) left _ got)

-- ---- unions

ids_again : (b : List ℕ) (u : Table) (ids : Option (List ℤ)) → Small b → IfSome ids AreIds → Slotted b u 1 (one (optional_numbers ids)) → numbers_in b u 1 ≡ Some ids
unfolding numbers_in
ids_again b u None long are s = rw (absent_slot b u 1 no_cells s) refl
ids_again b u (Some ids) long are s =
    let p = below_slot b u 1 (numbers ids) no_cells s in
    let stands = numbers_stand b p.0 ids long are p.4 in
    rw (p.2, follows b p.1 p.0 p.3, stands.0, stands.1) refl

abbrev union_cells : Bool → Option (List ℤ) → Cells
union_cells sparse ids = two (number (cond sparse 0 1)) (optional_numbers ids)

mode_again : (b : List ℕ) (u : Table) (sparse : Bool) (ids : Option (List ℤ)) → Slotted b u 0 (union_cells sparse ids) → (number_in short_at 0 b u 0 >>= truth_of) ≡ Some (cond sparse false true)
mode_again b u true ids s = rw (short_in b u 0 0 0 (omega arith) (number_slot b u 0 0 (one (optional_numbers ids)) s)) refl
mode_again b u false ids s = rw (short_in b u 0 1 0 (omega arith) (number_slot b u 0 1 (one (optional_numbers ids)) s)) refl

turned : (sparse : Bool) → cond (cond sparse false true) false true ≡ sparse
turned true = refl
turned false = refl

-- the mode, and what is read behind it
union_by : Option ℕ → Option (Option (List ℤ)) → Option (List FieldTree × ℕ) → Option (TypeTree × ℕ)
union_by mode ids fields = do
  m ← mode
  dense ← truth_of m
  told ← ids
  over (λ gs. t_union (fields_of gs) told (cond dense false true)) fields

union_of : (mode : Option ℕ) (dense : Bool) (ids : Option (List ℤ)) (fields : Option (List FieldTree × ℕ)) → (mode >>= truth_of) ≡ Some dense
    → union_by mode (Some ids) fields ≡ over (λ gs. t_union (fields_of gs) ids (cond dense false true)) fields
unfolding union_by
union_of None dense ids fields e = absurd cc
union_of (Some m) dense ids fields e = rw e refl

pub union_again : (read : Reads FieldTree) (b : List ℕ) (d : ℕ) → Small b → Again read b d → (fs : FieldTrees) (ids : Option (List ℤ)) (sparse : Bool) (parent u : Table) (id left : ℕ) → FieldsFit d fs → IfSome ids AreIds
    → Slotted b u 0 (two (number (cond sparse 0 1)) (optional_numbers ids)) → Points b parent 5 (vector (fields_objects id fs)) → length (objects_bytes (fields_objects id fs)) ≤ left
    → Costs (union_in read b parent u left) (t_union fs ids sparse) left (length (objects_bytes (fields_objects id fs)))
unfolding union_in union_by
union_again read b d long again fs ids sparse parent u id left fit are s p enough =
    let got = vector_again read b d long again fs parent 5 id left fit p enough in
    let mode = mode_again b u sparse ids s in
    let told = ids_again b u ids long are (more_slots b u 0 (number (cond sparse 0 1)) (one (optional_numbers ids)) s) in
    let first : union_in read b parent u left ≡ union_by (number_in short_at 0 b u 0) (Some ids) (children_in read b parent left) = ap (λ (o : Option (Option (List ℤ))). union_by (number_in short_at 0 b u 0) o (children_in read b parent left)) told in
    let second = union_of (number_in short_at 0 b u 0) (cond sparse false true) ids (children_in read b parent left) mode in
    let made : t_union (fields_of (list_of fs)) ids (cond (cond sparse false true) false true) ≡ t_union fs ids sparse = ap (λ (gs : FieldTrees). t_union gs ids (cond (cond sparse false true) false true)) (fields_of-list_of fs) ∙ ap (t_union fs ids) (turned sparse) in
    (got.0, first ∙ second ∙ rw got.1 refl ∙ ap (λ (t : TypeTree). Some (t, got.0)) made, got.2)
