-- The ways to the columns of a field are those of its shape.
use Rattle.std.proofs.Common.{◌≡◌, ◌+◌, ℕ, zero, suc, Bool, true, false, List, [], ◌∷◌, ◌++◌, ◌&&◌, map, refl, sym, ap, ◌∙◌, arith, true≢false}
use Rattle.std.proofs.lemmas.Bool.{and_from, and_parts}
use Rattle.std.proofs.lemmas.List.{map-append}
use Rattle.columns_core.specs.Shapes.{base, shape_of, shapes_of, type_shape}
use Rattle.columns_core.specs.Tree.{TypeTree, t_list, t_fixed_size_list, t_large_list, t_struct, t_map, t_dictionary, t_extension, FieldTree, field, FieldTrees, no_fields, more_fields}
use Rattle.shredding.specs.Shape.{Way, at_leaf, in_list, in_struct, one_on, struct, ways, ways_of}
use Rattle.pq_headline.specs.Columns.{ArrowColumn, type_columns, field_columns, columns_from, schema_columns, beneath_list, beneath_struct, has_no_parts, small_limit, large_limit}
use Rattle.pq_headline.specs.Served.{is_served_type, is_served_field, are_served_fields}

-- No dictionary is in it but of entries without parts: a dictionary is one column.
abbrev mutual
  pub is_direct : TypeTree → Bool
  is_direct (t_list item) = is_direct_field item
  is_direct (t_large_list item) = is_direct_field item
  is_direct (t_fixed_size_list item n) = is_direct_field item
  is_direct (t_map entry is_sorted) = is_direct_field entry
  is_direct (t_struct fs) = are_direct_fields fs
  is_direct (t_dictionary key t is_sorted) = has_no_parts (base t)
  is_direct (t_extension name inner metadata) = is_direct inner
  is_direct t = true

  pub is_direct_field : FieldTree → Bool
  is_direct_field (field name t is_nullable metadata) = is_direct t

  pub are_direct_fields : FieldTrees → Bool
  are_direct_fields no_fields = true
  are_direct_fields (more_fields f fs) = is_direct_field f && are_direct_fields fs

mutual
  direct_type : (t : TypeTree) → is_served_type t ≡ true → is_direct t ≡ true
  direct_type (t_list item) h = direct_field item h
  direct_type (t_large_list item) h = direct_field item h
  direct_type (t_fixed_size_list item n) h = absurd (true≢false (sym h))
  direct_type (t_map entry is_sorted) h = direct_field entry h
  direct_type (t_struct fs) h = direct_schema fs h
  direct_type (t_dictionary key t is_sorted) h = absurd (true≢false (sym h))
  direct_type (t_extension name inner metadata) h = direct_type inner h
  direct_type t h = refl

  direct_field : (f : FieldTree) → is_served_field f ≡ true → is_direct_field f ≡ true
  direct_field (field name t is_nullable metadata) h = direct_type t h

  direct_schema : (fs : FieldTrees) → are_served_fields fs ≡ true → are_direct_fields fs ≡ true
  direct_schema no_fields h = refl
  direct_schema (more_fields f fs) h =
      let a = and_parts _ _ h in
      and_from _ _ (direct_field f a.0) (direct_schema fs a.1)

abbrev pub ways_in : List ArrowColumn → List Way
ways_in cs = map (λ c. c.way) cs

lists_ways : (n : Bool) (limit : ℕ) (cs : List ArrowColumn) → ways_in (map (beneath_list n limit) cs) ≡ map (in_list n) (ways_in cs)
lists_ways n limit [] = refl
lists_ways n limit (c ∷ cs) = ap (λ ws. in_list n c.way ∷ ws) (lists_ways n limit cs)

abbrev placed : ℕ → ℕ × Way → ℕ × Way
placed place p = (place + p.0, p.1)

abbrev way_at : Bool → ℕ × Way → Way
way_at n p = in_struct n p.0 p.1

structs_ways : (n : Bool) (place : ℕ) (cs : List ArrowColumn) → ways_in (map (beneath_struct n place) cs) ≡ map (λ w. in_struct n place w) (ways_in cs)
structs_ways n place [] = refl
structs_ways n place (c ∷ cs) = ap (λ ws. in_struct n place c.way ∷ ws) (structs_ways n place cs)

first_ways : (n : Bool) (place : ℕ) (ws : List Way) → map (λ w. in_struct n place w) ws ≡ map (λ p. way_at n (placed place p)) (map (λ w. (zero, w)) ws)
first_ways n place [] = refl
first_ways n place (w ∷ ws) =
    let e : place ≡ place + zero = omega arith in ap (λ q. in_struct n q w ∷ map (λ v. in_struct n place v) ws) e ∙ ap (λ vs. in_struct n (place + zero) w ∷ vs) (first_ways n place ws)

next_ways : (n : Bool) (place : ℕ) (ps : List (ℕ × Way)) → map (λ p. way_at n (placed (suc place) p)) ps ≡ map (λ p. way_at n (placed place p)) (map one_on ps)
next_ways n place [] = refl
next_ways n place (p ∷ ps) =
    let e : suc place + p.0 ≡ place + suc p.0 = omega arith in
    ap (λ q. in_struct n q p.1 ∷ map (λ r. way_at n (placed (suc place) r)) ps) e ∙ ap (λ vs. in_struct n (place + suc p.0) p.1 ∷ vs) (next_ways n place ps)

from_zero : (n : Bool) (ps : List (ℕ × Way)) → map (λ p. way_at n (placed zero p)) ps ≡ map (λ p. in_struct n p.0 p.1) ps
from_zero n [] = refl
from_zero n (p ∷ ps) =
    let e : zero + p.0 ≡ p.0 = omega arith in ap (λ q. in_struct n q p.1 ∷ map (λ r. way_at n (placed zero r)) ps) e ∙ ap (λ vs. in_struct n p.0 p.1 ∷ vs) (from_zero n ps)

entry_ways : (n : Bool) (t : TypeTree) → has_no_parts (base t) ≡ true → at_leaf n ∷ [] ≡ ways (type_shape n t)
entry_ways n (t_extension name inner m) h = entry_ways n inner h
entry_ways n (t_list item) h = absurd (true≢false (sym h))
entry_ways n (t_large_list item) h = absurd (true≢false (sym h))
entry_ways n (t_fixed_size_list item w) h = absurd (true≢false (sym h))
entry_ways n (t_map entry s) h = absurd (true≢false (sym h))
entry_ways n (t_struct fs) h = absurd (true≢false (sym h))
entry_ways n (t_dictionary k t s) h = absurd (true≢false (sym h))
entry_ways n t h = refl

mutual
  ways_by : (n : Bool) (t : TypeTree) → is_direct t ≡ true → ways_in (type_columns n t) ≡ ways (type_shape n t)
  ways_by n (t_list item) h = lists_ways n small_limit (field_columns item) ∙ ap (map (in_list n)) (ways_are item h)
  ways_by n (t_large_list item) h = lists_ways n large_limit (field_columns item) ∙ ap (map (in_list n)) (ways_are item h)
  ways_by n (t_fixed_size_list item w) h = lists_ways n large_limit (field_columns item) ∙ ap (map (in_list n)) (ways_are item h)
  ways_by n (t_map entry s) h = lists_ways n small_limit (field_columns entry) ∙ ap (map (in_list n)) (ways_are entry h)
  ways_by n (t_struct fs) h = ways_from n zero fs h ∙ from_zero n (ways_of (shapes_of fs))
  ways_by n (t_dictionary k t s) h = entry_ways n t h
  ways_by n (t_extension name inner m) h = ways_by n inner h
  ways_by n t h = refl

  pub ways_are : (f : FieldTree) → is_direct_field f ≡ true → ways_in (field_columns f) ≡ ways (shape_of f)
  ways_are (field name t n m) h = ways_by n t h

  ways_from : (n : Bool) (place : ℕ) (fs : FieldTrees) → are_direct_fields fs ≡ true → ways_in (columns_from n place fs) ≡ map (λ p. way_at n (placed place p)) (ways_of (shapes_of fs))
  ways_from n place no_fields h = refl
  ways_from n place (more_fields f fs) h =
      let a = and_parts _ _ h in
      map-append (λ c. c.way) (map (beneath_struct n place) (field_columns f)) (columns_from n (suc place) fs)
      ∙ ap (λ ws. ws ++ ways_in (columns_from n (suc place) fs)) (structs_ways n place (field_columns f) ∙ ap (map (λ w. in_struct n place w)) (ways_are f a.0) ∙ first_ways n place (ways (shape_of f)))
      ∙ ap (λ ws. map (λ p. way_at n (placed place p)) (map (λ w. (zero, w)) (ways (shape_of f))) ++ ws) (ways_from n (suc place) fs a.1 ∙ next_ways n place (ways_of (shapes_of fs)))
      ∙ sym (map-append (λ p. way_at n (placed place p)) (map (λ w. (zero, w)) (ways (shape_of f))) (map one_on (ways_of (shapes_of fs))))

-- those of a schema, beneath its own struct
pub schema_ways : (fs : FieldTrees) → are_served_fields fs ≡ true → ways_in (schema_columns fs) ≡ ways (struct false (shapes_of fs))
schema_ways fs h = ways_from false zero fs (direct_schema fs h) ∙ from_zero false (ways_of (shapes_of fs))
