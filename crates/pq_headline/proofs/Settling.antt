-- Fields of which each can be written, against the trees of a file.
use Rattle.std.proofs.Common.{◌≡◌, ◌≢◌, ◌<◌, ℕ, Bool, true, false, not, ◌&&◌, ◌||◌, nat_eq, List, [], ◌∷◌, Option, Some, None, refl, sym, ap, subst, arith, true≢false, ne_eqb}
use Rattle.std.proofs.lemmas.Bool.{and_parts, and_from}
use Rattle.std.specs.List.{AllZip}
use Rattle.shredding.specs.Shape.{HasNoEmptyStruct, HaveNoEmptyStruct}
use Rattle.columns_core.specs.Measures.{leaves as type_leaves, field_leaves}
use Rattle.columns_core.specs.Shapes.{base, shape_of, shapes_of, type_shape}
use Rattle.columns_core.specs.Tree.{TypeTree, t_list, t_fixed_size_list, t_large_list, t_struct, t_union, t_map, t_dictionary, t_extension, FieldTree, field, FieldTrees, no_fields, more_fields}
use Rattle.pq_metadata.specs.Footer.{Footer}
use Rattle.pq_tree.specs.Tree.{Tree}
use Rattle.schema_fit.specs.declared.page_table.Asked.{Asked}
use Rattle.schema_fit.specs.declared.page_table.Asked.TheVariants as A
use Rattle.schema_fit.specs.declared.page_table.Row.{Row}
use Rattle.schema_fit.specs.Fits.{agrees_with, fits_to, asked_of}
use Rattle.schema_fit.specs.PageTable.{row_of, is_allowed, allows, same_units, go_by, go_together}
use Rattle.schema_fit.specs.Skeleton.{Bone, Bones, no_bones, bone, one, under_optional, under_repeated, ArrowLeaf, StoredLeaf, field_bones, tree_bones, same_bone, same_bones}
use Rattle.schema_map.specs.Rows.{all_bone, all_bones, allows_asked, has_row, HasRows}
use Rattle.schema_to_tree.specs.Conditions.{AreWritten, is_empty_struct, some_type, some_field, some_fields}
use Rattle.pq_headline.specs.Openings.{CanBeWritten}
use Rattle.pq_headline.specs.Served.{is_served_type, is_served_field, are_served_fields}
use Rattle.pq_headline.specs.Stages.{HaveRows, SchemaFits, fields_with_columns, list_fields, trees_with_columns}
use Rattle.pq_headline.proofs.Alike.{fitting_all_alike}

-- ---- no struct is without fields, and each field has a column

pub or_parts : (a b : Bool) → (a || b) ≡ false → (a ≡ false) × (b ≡ false)
or_parts true b h = absurd (true≢false h)
or_parts false b h = (refl, h)

mutual
  filled : (t : TypeTree) (b : Bool) → some_type is_empty_struct t ≡ false → is_served_type t ≡ true → HasNoEmptyStruct (type_shape b t)
  filled (t_list f) b h s = filled_field f h s
  filled (t_large_list f) b h s = filled_field f h s
  filled (t_map f sorted) b h s = filled_field f h s
  filled (t_struct no_fields) b h s = absurd (true≢false h)
  filled (t_struct (more_fields f fs)) b h s =
      let hs = or_parts (some_field is_empty_struct f) (some_fields is_empty_struct fs) h in
      let ss = and_parts (is_served_field f) (are_served_fields fs) s in
      (filled_field f hs.0 ss.0, filled_fields fs hs.1 ss.1)
  filled (t_extension name t m) b h s = filled t b h s
  filled (t_fixed_size_list f n) b h s = absurd (true≢false (sym s))
  filled (t_union fs ids sparse) b h s = absurd (true≢false (sym s))
  filled (t_dictionary key t sorted) b h s = absurd (true≢false (sym s))
  filled t b h s = tt

  filled_field : (f : FieldTree) → some_field is_empty_struct f ≡ false → is_served_field f ≡ true → HasNoEmptyStruct (shape_of f)
  filled_field (field name t b m) h s = filled t b h s

  pub filled_fields : (fs : FieldTrees) → some_fields is_empty_struct fs ≡ false → are_served_fields fs ≡ true → HaveNoEmptyStruct (shapes_of fs)
  filled_fields no_fields h s = tt
  filled_fields (more_fields f fs) h s =
      let hs = or_parts (some_field is_empty_struct f) (some_fields is_empty_struct fs) h in
      let ss = and_parts (is_served_field f) (are_served_fields fs) s in
      (filled_field f hs.0 ss.0, filled_fields fs hs.1 ss.1)

mutual
  some_leaf : (t : TypeTree) → some_type is_empty_struct t ≡ false → is_served_type t ≡ true → 0 < type_leaves t
  some_leaf (t_list f) h s = some_in f h s
  some_leaf (t_large_list f) h s = some_in f h s
  some_leaf (t_map f sorted) h s = some_in f h s
  some_leaf (t_struct no_fields) h s = absurd (true≢false h)
  some_leaf (t_struct (more_fields f fs)) h s =
      let hs = or_parts (some_field is_empty_struct f) (some_fields is_empty_struct fs) h in
      let ss = and_parts (is_served_field f) (are_served_fields fs) s in
      omega (arith, some_in f hs.0 ss.0)
  some_leaf (t_extension name t m) h s = some_leaf t h s
  some_leaf (t_fixed_size_list f n) h s = absurd (true≢false (sym s))
  some_leaf (t_union fs ids sparse) h s = absurd (true≢false (sym s))
  some_leaf (t_dictionary key t sorted) h s = absurd (true≢false (sym s))
  some_leaf t h s = omega arith

  some_in : (f : FieldTree) → some_field is_empty_struct f ≡ false → is_served_field f ≡ true → 0 < field_leaves f
  some_in (field name t b m) h s = some_leaf t h s

has_some : (n : ℕ) → 0 < n → not (nat_eq n 0) ≡ true
has_some n h = let e : nat_eq n 0 ≡ false = ne_eqb n 0 (omega (arith, h)) in ap not e

pub all_have : (fs : FieldTrees) → some_fields is_empty_struct fs ≡ false → are_served_fields fs ≡ true → fields_with_columns fs ≡ list_fields fs
all_have no_fields h s = refl
all_have (more_fields f fs) h s =
    let hs = or_parts (some_field is_empty_struct f) (some_fields is_empty_struct fs) h in
    let ss = and_parts (is_served_field f) (are_served_fields fs) s in
    rw (has_some (field_leaves f) (some_in f hs.0 ss.0)) (ap (λ k. f ∷ k) (all_have fs hs.1 ss.1))

-- ---- what agrees and is in the table fits

by_row : (asked : Asked) (o : Option Row) (t : TypeTree) (l : StoredLeaf) → go_by A.Agreement o t l ≡ true → allows_asked asked o ≡ true → go_by asked o t l ≡ true
by_row asked None t l g a = absurd (true≢false (sym a))
by_row asked (Some row) t l g a = and_from _ _ a (and_parts (is_allowed A.Agreement row) (allows row.stored l.physical && same_units t l.info) g).1

mutual
  joined_bone : (asked : Asked) (x : Bone ArrowLeaf) (y : Bone StoredLeaf) → same_bone (go_together A.Agreement) x y ≡ true → all_bone (has_row asked) x ≡ true → same_bone (go_together asked) x y ≡ true
  joined_bone asked (one a) (one b) g h = by_row asked (row_of a) a.data_type b g h
  joined_bone asked (under_optional xs) (under_optional ys) g h = joined_bones asked xs ys g h
  joined_bone asked (under_repeated xs) (under_repeated ys) g h = joined_bones asked xs ys g h
  joined_bone asked x y g h = absurd (true≢false (sym g))

  joined_bones : (asked : Asked) (xs : Bones ArrowLeaf) (ys : Bones StoredLeaf) → same_bones (go_together A.Agreement) xs ys ≡ true → all_bones (has_row asked) xs ≡ true → same_bones (go_together asked) xs ys ≡ true
  joined_bones asked no_bones no_bones g h = refl
  joined_bones asked (bone x xs) (bone y ys) g h =
      let gs = and_parts (same_bone (go_together A.Agreement) x y) (same_bones (go_together A.Agreement) xs ys) g in
      let hs = and_parts (all_bone (has_row asked) x) (all_bones (has_row asked) xs) h in
      and_from _ _ (joined_bone asked x y gs.0 hs.0) (joined_bones asked xs ys gs.1 hs.1)
  joined_bones asked xs ys g h = absurd (true≢false (sym g))

fits_by : (f : FieldTree) (t : Tree) → agrees_with f t ≡ true → HasRows f → fits_to f t ≡ true
fits_by (field name ty b m) t g h = joined_bones (asked_of (base ty)) (field_bones (field name ty b m)) (tree_bones t) g h

all_fit : (fs : FieldTrees) (ts : List Tree) → AllZip (λ g t. agrees_with g t ≡ true) (list_fields fs) ts → HaveRows fs → AllZip (λ g t. fits_to g t ≡ true) (list_fields fs) ts
all_fit no_fields [] g h = tt
all_fit no_fields (t ∷ ts) g h = absurd g
all_fit (more_fields f fs) [] g h = absurd g
all_fit (more_fields f fs) (t ∷ ts) g h = (fits_by f t g.0 h.0, all_fit fs ts g.1 h.1)

pub can_be : (fs : FieldTrees) → some_fields is_empty_struct fs ≡ false → are_served_fields fs ≡ true → HaveRows fs → CanBeWritten fs
can_be no_fields h s r = tt
can_be (more_fields f fs) h s r =
    let hs = or_parts (some_field is_empty_struct f) (some_fields is_empty_struct fs) h in
    let ss = and_parts (is_served_field f) (are_served_fields fs) s in
    (r.0, filled_field f hs.0 ss.0, can_be fs hs.1 ss.1 r.1)

pub settled :
    (fs : FieldTrees) (f : Footer) → fs ≢ no_fields → AllZip (λ g t. agrees_with g t ≡ true) (fields_with_columns fs) (trees_with_columns f.schema.fields)
    → AreWritten fs → HaveRows fs → are_served_fields fs ≡ true → SchemaFits fs f
settled fs f some agree w rows s = record {
  some = some;
  agree = agree;
  alike =
      fitting_all_alike fs f.schema.fields (filled_fields fs w.structs s)
      (all_fit fs (trees_with_columns f.schema.fields) (subst (λ (k : List FieldTree). AllZip (λ g t. agrees_with g t ≡ true) k (trees_with_columns f.schema.fields)) (all_have fs w.structs s) agree) rows);
  written = w;
  rows = rows;
  held = can_be fs w.structs s rows;
  served = s;
}
