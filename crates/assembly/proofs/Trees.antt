-- Facts about the columns of a field, by its type.
use Rattle.std.proofs.Common.{◌≡◌, inl, inr, ◌+◌, ◌<◌, ◌≤◌, ℕ, zero, suc, Bool, true, List, [], ◌∷◌, length, map, refl, sym, ap, ◌∙◌, arith, true≢false}
use Rattle.std.proofs.lemmas.Bool.{and_from, and_parts}
use Rattle.std.proofs.lemmas.List.{length-append, length-map}
use Rattle.std.specs.List.{AllByRecursion as Each}
use Rattle.std.proofs.lemmas.List.Elements.{All-from_recursion}
use Rattle.shredding.proofs.Levels.{Each-append}
use Rattle.columns_core.specs.Shapes.{shape_of, type_shape}
use Rattle.columns_core.specs.Tree.{TypeTree, t_list, t_fixed_size_list, t_large_list, t_struct, t_map, t_dictionary, t_extension, FieldTree, field, FieldTrees, no_fields, more_fields}
use Rattle.shredding.specs.Shape.{HasNoEmptyStruct}
use Rattle.shredding.specs.Shred.{max_repetition}
use Rattle.pq_headline.specs.Columns.{ArrowColumn, type_columns, field_columns, columns_from, beneath_list, beneath_struct, small_limit, large_limit}
use Rattle.pq_headline.proofs.Ways.{is_direct, is_direct_field, are_direct_fields}
use Rattle.assembly.specs.Read.{reads_nodes, reads_nodes_of, reads_nodes_of_all}
use Rattle.read_nested.specs.Joined.{HasFlatEntries, HaveFlatEntries, HasFixedList, HasFixedListIn, HaveFixedList}
use Rattle.read_pieces.specs.Pieces.{type_leaves, leaf_types, all_leaf_types}

-- ---- as many leaf types as columns

mutual
  types_count : (n : Bool) (own t : TypeTree) → length (type_leaves own t) ≡ length (type_columns n t)
  types_count n own (t_list item) = leaf_types_count item ∙ sym (length-map (field_columns item) (beneath_list n small_limit))
  types_count n own (t_large_list item) = leaf_types_count item ∙ sym (length-map (field_columns item) (beneath_list n large_limit))
  types_count n own (t_fixed_size_list item w) = leaf_types_count item ∙ sym (length-map (field_columns item) (beneath_list n large_limit))
  types_count n own (t_map entry s) = leaf_types_count entry ∙ sym (length-map (field_columns entry) (beneath_list n small_limit))
  types_count n own (t_struct fs) = all_types_count n zero fs
  types_count n own (t_extension name inner m) = types_count n own inner
  types_count n own t = refl

  pub leaf_types_count : (f : FieldTree) → length (leaf_types f) ≡ length (field_columns f)
  leaf_types_count (field name t n m) = types_count n t t

  all_types_count : (n : Bool) (place : ℕ) (fs : FieldTrees) → length (all_leaf_types fs) ≡ length (columns_from n place fs)
  all_types_count n place no_fields = refl
  all_types_count n place (more_fields f fs) =
      length-append (leaf_types f) (all_leaf_types fs) ∙ ap (λ k. k + length (all_leaf_types fs)) (leaf_types_count f ∙ sym (length-map (field_columns f) (beneath_struct n place)))
      ∙ ap (λ k. length (map (beneath_struct n place) (field_columns f)) + k) (all_types_count n (suc place) fs)
      ∙ sym (length-append (map (beneath_struct n place) (field_columns f)) (columns_from n (suc place) fs))

-- ---- a field without empty structs has a column

mutual
  some_of : (n : Bool) (t : TypeTree) → HasNoEmptyStruct (type_shape n t) → 0 < length (type_columns n t)
  some_of n (t_list item) h = omega (arith, some_column item h, length-map (field_columns item) (beneath_list n small_limit))
  some_of n (t_large_list item) h = omega (arith, some_column item h, length-map (field_columns item) (beneath_list n large_limit))
  some_of n (t_fixed_size_list item w) h = omega (arith, some_column item h, length-map (field_columns item) (beneath_list n large_limit))
  some_of n (t_map entry s) h = omega (arith, some_column entry h, length-map (field_columns entry) (beneath_list n small_limit))
  some_of n (t_struct no_fields) h = absurd h
  some_of n (t_struct (more_fields f fs)) h =
      omega (arith, some_column f h.0, length-map (field_columns f) (beneath_struct n zero), length-append (map (beneath_struct n zero) (field_columns f)) (columns_from n (suc zero) fs))
  some_of n (t_extension name inner m) h = some_of n inner h
  some_of n t h = omega arith

  pub some_column : (f : FieldTree) → HasNoEmptyStruct (shape_of f) → 0 < length (field_columns f)
  some_column (field name t n m) h = some_of n t h

-- ---- the dictionaries of a field that is read have entries without parts

abbrev pub IsFlatColumn : ArrowColumn → Type 0
IsFlatColumn c = HasFlatEntries c.data_type

beneath_lists : (n : Bool) (limit : ℕ) (cs : List ArrowColumn) → Each IsFlatColumn cs → Each IsFlatColumn (map (beneath_list n limit) cs)
beneath_lists n limit [] h = tt
beneath_lists n limit (c ∷ cs) h = (h.0, beneath_lists n limit cs h.1)

beneath_structs : (n : Bool) (place : ℕ) (cs : List ArrowColumn) → Each IsFlatColumn cs → Each IsFlatColumn (map (beneath_struct n place) cs)
beneath_structs n place [] h = tt
beneath_structs n place (c ∷ cs) h = (h.0, beneath_structs n place cs h.1)

mutual
  flat_of : (n : Bool) (t : TypeTree) → reads_nodes t ≡ true → Each IsFlatColumn (type_columns n t)
  flat_of n (t_list item) h = beneath_lists n small_limit (field_columns item) (flat_columns item h)
  flat_of n (t_large_list item) h = beneath_lists n large_limit (field_columns item) (flat_columns item h)
  flat_of n (t_fixed_size_list item w) h = absurd (true≢false (sym h))
  flat_of n (t_map entry s) h = beneath_lists n small_limit (field_columns entry) (flat_columns entry h)
  flat_of n (t_struct fs) h = flat_from n zero fs h
  flat_of n (t_dictionary k t s) h = (h, tt)
  flat_of n (t_extension name inner m) h = flat_of n inner h
  flat_of n t h = (tt, tt)

  pub flat_columns : (f : FieldTree) → reads_nodes_of f ≡ true → Each IsFlatColumn (field_columns f)
  flat_columns (field name t n m) h = flat_of n t h

  flat_from : (n : Bool) (place : ℕ) (fs : FieldTrees) → reads_nodes_of_all fs ≡ true → Each IsFlatColumn (columns_from n place fs)
  flat_from n place no_fields h = tt
  flat_from n place (more_fields f fs) h =
      let a = and_parts _ _ h in
      Each-append IsFlatColumn (map (beneath_struct n place) (field_columns f)) (columns_from n (suc place) fs) (beneath_structs n place (field_columns f) (flat_columns f a.0)) (flat_from n (suc place) fs a.1)

pub flat_field : (f : FieldTree) → reads_nodes_of f ≡ true → HaveFlatEntries f
flat_field f h = All-from_recursion IsFlatColumn (field_columns f) (flat_columns f h)

-- ---- a dictionary is one column

mutual
  direct_type : (t : TypeTree) → reads_nodes t ≡ true → is_direct t ≡ true
  direct_type (t_list item) h = direct_field item h
  direct_type (t_large_list item) h = direct_field item h
  direct_type (t_fixed_size_list item w) h = absurd (true≢false (sym h))
  direct_type (t_map entry s) h = direct_field entry h
  direct_type (t_struct fs) h = direct_fields fs h
  direct_type (t_dictionary k t s) h = h
  direct_type (t_extension name inner m) h = direct_type inner h
  direct_type t h = refl

  pub direct_field : (f : FieldTree) → reads_nodes_of f ≡ true → is_direct_field f ≡ true
  direct_field (field name t n m) h = direct_type t h

  direct_fields : (fs : FieldTrees) → reads_nodes_of_all fs ≡ true → are_direct_fields fs ≡ true
  direct_fields no_fields h = refl
  direct_fields (more_fields f fs) h =
      let a = and_parts _ _ h in
      and_from _ _ (direct_field f a.0) (direct_fields fs a.1)

-- ---- each list of a column has its limit, of at most 64 bits

pub record IsLimited (c : ArrowColumn) : Type 0 where
  pub lists : length c.limits ≡ max_repetition c.way
  pub limited : Each (λ n. n ≤ large_limit) c.limits

limited_lists : (n : Bool) (limit : ℕ) (cs : List ArrowColumn) → limit ≤ large_limit → Each IsLimited cs → Each IsLimited (map (beneath_list n limit) cs)
limited_lists n limit [] l h = tt
limited_lists n limit (c ∷ cs) l h = (record { lists = ap suc h.0.lists; limited = (l, h.0.limited) }, limited_lists n limit cs l h.1)

limited_structs : (n : Bool) (place : ℕ) (cs : List ArrowColumn) → Each IsLimited cs → Each IsLimited (map (beneath_struct n place) cs)
limited_structs n place [] h = tt
limited_structs n place (c ∷ cs) h = (record { lists = h.0.lists; limited = h.0.limited }, limited_structs n place cs h.1)

mutual
  limited_of : (n : Bool) (t : TypeTree) → Each IsLimited (type_columns n t)
  limited_of n (t_list item) = limited_lists n small_limit (field_columns item) (omega arith) (limited_columns item)
  limited_of n (t_large_list item) = limited_lists n large_limit (field_columns item) (omega arith) (limited_columns item)
  limited_of n (t_fixed_size_list item w) = limited_lists n large_limit (field_columns item) (omega arith) (limited_columns item)
  limited_of n (t_map entry s) = limited_lists n small_limit (field_columns entry) (omega arith) (limited_columns entry)
  limited_of n (t_struct fs) = limited_from n zero fs
  limited_of n (t_extension name inner m) = limited_of n inner
  limited_of n t = (record { lists = refl; limited = tt }, tt)

  pub limited_columns : (f : FieldTree) → Each IsLimited (field_columns f)
  limited_columns (field name t n m) = limited_of n t

  limited_from : (n : Bool) (place : ℕ) (fs : FieldTrees) → Each IsLimited (columns_from n place fs)
  limited_from n place no_fields = tt
  limited_from n place (more_fields f fs) =
      Each-append IsLimited (map (beneath_struct n place) (field_columns f)) (columns_from n (suc place) fs) (limited_structs n place (field_columns f) (limited_columns f)) (limited_from n (suc place) fs)

-- ---- a field that is read has no list of fixed size

mutual
  no_fixed : (t : TypeTree) → reads_nodes t ≡ true → HasFixedList t → ⊥
  no_fixed (t_list item) s h = no_fixed_list item s h
  no_fixed (t_large_list item) s h = no_fixed_list item s h
  no_fixed (t_fixed_size_list item w) s h = absurd (true≢false (sym s))
  no_fixed (t_map entry sorted) s h = no_fixed_list entry s h
  no_fixed (t_struct fs) s h = no_fixed_lists fs s h
  no_fixed (t_extension name inner m) s h = no_fixed inner s h
  no_fixed t s h = h

  pub no_fixed_list : (f : FieldTree) → reads_nodes_of f ≡ true → HasFixedListIn f → ⊥
  no_fixed_list (field name t n m) s h = no_fixed t s h

  no_fixed_lists : (fs : FieldTrees) → reads_nodes_of_all fs ≡ true → HaveFixedList fs → ⊥
  no_fixed_lists no_fields s h = h
  no_fixed_lists (more_fields f fs) s (inl h) = no_fixed_list f (and_parts _ _ s).0 h
  no_fixed_lists (more_fields f fs) s (inr h) = no_fixed_lists fs (and_parts _ _ s).1 h
