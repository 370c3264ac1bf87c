-- A settled schema fits the file that was written for it.
use Rattle.std.proofs.Common.{◌≡◌, ◌<◌, ℕ, Bool, true, false, not, nat_eq, List, ◌∷◌, length, map, refl, sym, ap, subst, arith, true≢false, ne_eqb, length-append}
use Rattle.std.proofs.lemmas.Bool.{and_parts}
use Rattle.std.proofs.lemmas.List.{length-map}
use Rattle.std.specs.List.{AllZip}
use Rattle.columns_core.specs.Tree.{FieldTree, FieldTrees, TypeTree, field, more_fields, no_fields, t_dictionary, t_extension, t_fixed_size_list, t_large_list, t_list, t_map, t_struct, t_union}
use Rattle.pq_metadata.specs.Footer.{Footer}
use Rattle.pq_tree.specs.Tree.{Schema, Tree, leaves}
use Rattle.schema_fit.specs.Fits.{agrees_with}
use Rattle.schema_map.specs.Laws.{FittingFieldsAgree, RowsDecide}
use Rattle.schema_to_tree.specs.Conditions.{is_empty_struct, some_field, some_fields, some_type}
use Rattle.schema_to_tree.specs.Table.{schema_of, tree_of, trees_of}
use Rattle.pq_headline.proofs.Plain.{own}
use Rattle.pq_headline.proofs.Settling.{all_have, can_be, or_parts, settled}
use Rattle.pq_headline.specs.Columns.{beneath_list, beneath_struct, columns_from, field_columns, large_limit, small_limit, type_columns}
use Rattle.pq_headline.specs.Openings.{CanBeWritten}
use Rattle.pq_headline.specs.Served.{are_served_fields, is_served_field, is_served_type}
use Rattle.pq_headline.specs.Stages.{HaveRows, SchemaFits, fields_with_columns, list_fields, list_trees, trees_with_columns}
use Rattle.unique_rows.specs.Valid.{IsSettled}

-- ---- each field has a column

mutual
  some_column : (b : Bool) (t : TypeTree) → some_type is_empty_struct t ≡ false → is_served_type t ≡ true → 0 < length (type_columns b t)
  some_column b (t_list f) h s = omega (arith, some_in f h s, length-map (field_columns f) (beneath_list b small_limit))
  some_column b (t_large_list f) h s = omega (arith, some_in f h s, length-map (field_columns f) (beneath_list b large_limit))
  some_column b (t_map f sorted) h s = omega (arith, some_in f h s, length-map (field_columns f) (beneath_list b small_limit))
  some_column b (t_struct no_fields) h s = absurd (true≢false h)
  some_column b (t_struct (more_fields f fs)) h s =
      let hs = or_parts (some_field is_empty_struct f) (some_fields is_empty_struct fs) h in
      let ss = and_parts (is_served_field f) (are_served_fields fs) s in
      omega (arith, some_in f hs.0 ss.0, length-map (field_columns f) (beneath_struct b 0), length-append (map (beneath_struct b 0) (field_columns f)) (columns_from b 1 fs))
  some_column b (t_extension name t m) h s = some_column b t h s
  some_column b (t_fixed_size_list f n) h s = absurd (true≢false (sym s))
  some_column b (t_union fs ids sparse) h s = absurd (true≢false (sym s))
  some_column b (t_dictionary key t sorted) h s = absurd (true≢false (sym s))
  some_column b t h s = omega arith

  some_in : (f : FieldTree) → some_field is_empty_struct f ≡ false → is_served_field f ≡ true → 0 < length (field_columns f)
  some_in (field name t b m) h s = some_column b t h s

-- ---- so has each tree

has_some : (n : ℕ) → 0 < n → not (nat_eq n 0) ≡ true
has_some n h = let e : nat_eq n 0 ≡ false = ne_eqb n 0 (omega (arith, h)) in ap not e

trees_have : RowsDecide → (fs : FieldTrees) → some_fields is_empty_struct fs ≡ false → are_served_fields fs ≡ true → CanBeWritten fs → trees_with_columns (trees_of fs) ≡ list_trees (trees_of fs)
trees_have decide no_fields h s c = refl
trees_have decide (more_fields f fs) h s c =
    let hs = or_parts (some_field is_empty_struct f) (some_fields is_empty_struct fs) h in
    let ss = and_parts (is_served_field f) (are_served_fields fs) s in
    let some : 0 < length (leaves (tree_of f)) = subst (λ (n : ℕ). 0 < n) (own decide f c.0 c.1) (some_in f hs.0 ss.0) in
    rw (has_some (length (leaves (tree_of f))) some) (ap (λ k. tree_of f ∷ k) (trees_have decide fs hs.1 ss.1 c.2))

-- ---- fields agree with their own trees

own_trees : RowsDecide → FittingFieldsAgree → (fs : FieldTrees) → HaveRows fs → AllZip (λ g t. agrees_with g t ≡ true) (list_fields fs) (list_trees (trees_of fs))
own_trees decide agree no_fields h = tt
own_trees decide agree (more_fields f fs) h = (agree f (tree_of f) ((decide f).1 h.0), own_trees decide agree fs h.1)

pub can_be_written : (fs : FieldTrees) → IsSettled fs → CanBeWritten fs
can_be_written fs s = can_be fs s.written.structs s.served s.rows

pub settled_fits : RowsDecide → FittingFieldsAgree → (fs : FieldTrees) (f : Footer) → f.schema ≡ schema_of fs → IsSettled fs → SchemaFits fs f
settled_fits decide agree fs f e s =
    let trees = trees_have decide fs s.written.structs s.served (can_be_written fs s) in
    let fields = all_have fs s.written.structs s.served in
    let each : AllZip (λ g t. agrees_with g t ≡ true) (fields_with_columns fs) (trees_with_columns (trees_of fs)) =
    subst (λ (gs : List FieldTree). AllZip (λ g t. agrees_with g t ≡ true) gs (trees_with_columns (trees_of fs))) (sym fields)
    (subst (λ (ts : List Tree). AllZip (λ g t. agrees_with g t ≡ true) (list_fields fs) ts) (sym trees) (own_trees decide agree fs s.rows)) in
    settled fs f s.some (subst (λ (x : Schema). AllZip (λ g t. agrees_with g t ≡ true) (fields_with_columns fs) (trees_with_columns x.fields)) (sym e) each) s.written s.rows s.served
