-- A field that goes with its leaves is opened column by column.
use Rattle.std.proofs.Common.{◌≡◌, ◌⊎◌, inl, inr, ◌<◌, ℕ, zero, suc, Bool, true, false, Option, Some, None, List, [], ◌∷◌, ◌++◌, length, map, refl, sym, ap, subst, ◌∙◌, arith, true≢false, is_some, Box, Global, rules}
use Rattle.std.proofs.lemmas.Bool.{and_parts}
use Rattle.columns_base.specs.declared.error.Error.{Error}
use Rattle.columns_base.specs.declared.error.Error.TheVariants.{NotYetImplemented, InvalidArgumentError}
use Rattle.columns_base.specs.declared.error.A.TheVariants.{A8}
use Rattle.columns_base.specs.declared.error.N.TheVariants.{N5}
use Rattle.columns_core.specs.Shapes.{base, shape_of, shapes_of, type_shape}
use Rattle.columns_core.specs.Tree.{TypeTree, t_list, t_fixed_size_list, t_large_list, t_struct, t_union, t_map, t_dictionary, t_extension, FieldTree, field, FieldTrees, no_fields, more_fields}
use Rattle.columns_core.specs.View.{type_view, field_view, fields_view}
use Rattle.columns_core.specs.declared.types.DataType.{the_lemmas}
use Rattle.columns_core.specs.declared.types.DataType.TheVariants as D
use Rattle.columns_core.specs.declared.types.Field.{Field}
use Rattle.read_state.specs.Initial.{IsWay}
use Rattle.read_state.specs.declared.init.InitNested.{InitNested}
use Rattle.read_state.specs.declared.init.InitNested.TheVariants.{Primitive, List as ListOf, Struct}
use Rattle.schema_to_tree.specs.Faults.{first_of_two}
use Rattle.shredding.specs.Along.{thin}
use Rattle.shredding.specs.Shape.{HasNoEmptyStruct, HaveNoEmptyStruct, Way, at_leaf, in_list, in_struct}
use Rattle.pq_headline.specs.Columns.{ArrowColumn, type_columns, field_columns, columns_from, leaf_column, beneath_list, beneath_struct, has_no_parts}
use Rattle.assembly.specs.Read.{reads_nodes, reads_nodes_of, reads_nodes_of_all}
use Rattle.read_pieces.specs.Pieces.{type_leaves, leaf_types, all_leaf_types}
use Rattle.assembly.specs.Paths.{Path, type_paths, field_paths, fields_paths, entries_fault, type_fault, field_fault, struct_fault, fields_fault}

-- ---- a way behind the parts above

-- the parts above a way, around it
abbrev around : List InitNested → Way → Way
around [] w = w
around (Primitive n ∷ front) w = around front w
around (ListOf n ∷ front) w = in_list n (around front w)
around (Struct n ∷ front) w = in_struct n zero (around front w)

abbrev AreAbove : List InitNested → Type 0
AreAbove [] = Unit {0}
AreAbove (Primitive n ∷ front) = ⊥
AreAbove (ListOf n ∷ front) = AreAbove front
AreAbove (Struct n ∷ front) = AreAbove front

leaf_way : (front : List InitNested) (n : Bool) → AreAbove front → IsWay (front ++ Primitive n ∷ []) (around front (at_leaf n))
leaf_way [] n h = (refl, refl)
leaf_way (Primitive m ∷ front) n h = absurd h
leaf_way (ListOf m ∷ front) n h = (around front (at_leaf n), leaf_way front n h, refl)
leaf_way (Struct m ∷ front) n h = (around front (at_leaf n), leaf_way front n h, refl)

around_list : (front : List InitNested) (n : Bool) (w : Way) → around (front ++ ListOf n ∷ []) w ≡ around front (in_list n w)
around_list [] n w = refl
around_list (Primitive m ∷ front) n w = around_list front n w
around_list (ListOf m ∷ front) n w = ap (in_list m) (around_list front n w)
around_list (Struct m ∷ front) n w = ap (in_struct m zero) (around_list front n w)

around_struct : (front : List InitNested) (n : Bool) (w : Way) → around (front ++ Struct n ∷ []) w ≡ around front (in_struct n zero w)
around_struct [] n w = refl
around_struct (Primitive m ∷ front) n w = around_struct front n w
around_struct (ListOf m ∷ front) n w = ap (in_list m) (around_struct front n w)
around_struct (Struct m ∷ front) n w = ap (in_struct m zero) (around_struct front n w)

above_list : (front : List InitNested) (n : Bool) → AreAbove front → AreAbove (front ++ ListOf n ∷ [])
above_list [] n h = tt
above_list (Primitive m ∷ front) n h = absurd h
above_list (ListOf m ∷ front) n h = above_list front n h
above_list (Struct m ∷ front) n h = above_list front n h

above_struct : (front : List InitNested) (n : Bool) → AreAbove front → AreAbove (front ++ Struct n ∷ [])
above_struct [] n h = tt
above_struct (Primitive m ∷ front) n h = absurd h
above_struct (ListOf m ∷ front) n h = above_struct front n h
above_struct (Struct m ∷ front) n h = above_struct front n h

-- ---- paths and columns

-- the path of a column, behind the parts above
pub record IsPath (front : List InitNested) (c : ArrowColumn) (t : TypeTree) (p : Path) : Type 0 where
  pub way : IsWay p.0 (around front (thin c.way))
  pub type : p.1 ≡ t
  pub based : c.data_type ≡ base t

abbrev pub ArePaths : List InitNested → List ArrowColumn → List TypeTree → List Path → Type 0
ArePaths front [] [] [] = Unit {0}
ArePaths front (c ∷ cs) (t ∷ types) (p ∷ ps) = IsPath front c t p × ArePaths front cs types ps
ArePaths front _ _ _ = ⊥

paths_append :
    (front : List InitNested) (cs ds : List ArrowColumn) (types others : List TypeTree) (ps qs : List Path) → ArePaths front cs types ps → ArePaths front ds others qs → ArePaths front (cs ++ ds) (types ++ others) (ps ++ qs)
paths_append front [] ds [] others [] qs h k = k
paths_append front [] ds [] others (p ∷ ps) qs h k = absurd h
paths_append front [] ds (t ∷ types) others ps qs h k = absurd h
paths_append front (c ∷ cs) ds [] others ps qs h k = absurd h
paths_append front (c ∷ cs) ds (t ∷ types) others [] qs h k = absurd h
paths_append front (c ∷ cs) ds (t ∷ types) others (p ∷ ps) qs h k = (h.0, paths_append front cs ds types others ps qs h.1 k)

out_of_list :
    (front : List InitNested) (n : Bool) (limit : ℕ) (cs : List ArrowColumn) (types : List TypeTree) (ps : List Path) → ArePaths (front ++ ListOf n ∷ []) cs types ps → ArePaths front (map (beneath_list n limit) cs) types ps
out_of_list front n limit [] [] [] h = tt
out_of_list front n limit [] [] (p ∷ ps) h = absurd h
out_of_list front n limit [] (t ∷ types) ps h = absurd h
out_of_list front n limit (c ∷ cs) [] ps h = absurd h
out_of_list front n limit (c ∷ cs) (t ∷ types) [] h = absurd h
out_of_list front n limit (c ∷ cs) (t ∷ types) (p ∷ ps) h =
    (record { way = subst (IsWay p.0) (around_list front n (thin c.way)) h.0.way; type = h.0.type; based = h.0.based }, out_of_list front n limit cs types ps h.1)

out_of_struct :
    (front : List InitNested) (n : Bool) (place : ℕ) (cs : List ArrowColumn) (types : List TypeTree) (ps : List Path) → ArePaths (front ++ Struct n ∷ []) cs types ps → ArePaths front (map (beneath_struct n place) cs) types ps
out_of_struct front n place [] [] [] h = tt
out_of_struct front n place [] [] (p ∷ ps) h = absurd h
out_of_struct front n place [] (t ∷ types) ps h = absurd h
out_of_struct front n place (c ∷ cs) [] ps h = absurd h
out_of_struct front n place (c ∷ cs) (t ∷ types) [] h = absurd h
out_of_struct front n place (c ∷ cs) (t ∷ types) (p ∷ ps) h =
    (record { way = subst (IsWay p.0) (around_struct front n (thin c.way)) h.0.way; type = h.0.type; based = h.0.based }, out_of_struct front n place cs types ps h.1)

leaf_path : (front : List InitNested) (n : Bool) (own t : TypeTree) → AreAbove front → t ≡ base own → ArePaths front (leaf_column n t) (own ∷ []) ((front ++ Primitive n ∷ [], own) ∷ [])
leaf_path front n own t h e = (record { way = leaf_way front n h; type = refl; based = e }, tt)

mutual
  paths_of : (front : List InitNested) (n : Bool) (own t : TypeTree) → AreAbove front → base t ≡ base own → ArePaths front (type_columns n t) (type_leaves own t) (type_paths front n own t)
  paths_of front n own (t_list item) h e = out_of_list front n _ (field_columns item) (leaf_types item) (field_paths (front ++ ListOf n ∷ []) item) (paths_behind (front ++ ListOf n ∷ []) item (above_list front n h))
  paths_of front n own (t_large_list item) h e = out_of_list front n _ (field_columns item) (leaf_types item) (field_paths (front ++ ListOf n ∷ []) item) (paths_behind (front ++ ListOf n ∷ []) item (above_list front n h))
  paths_of front n own (t_fixed_size_list item w) h e = out_of_list front n _ (field_columns item) (leaf_types item) (field_paths (front ++ ListOf n ∷ []) item) (paths_behind (front ++ ListOf n ∷ []) item (above_list front n h))
  paths_of front n own (t_map entry s) h e = out_of_list front n _ (field_columns entry) (leaf_types entry) (field_paths (front ++ ListOf n ∷ []) entry) (paths_behind (front ++ ListOf n ∷ []) entry (above_list front n h))
  paths_of front n own (t_struct fs) h e = paths_from front n zero fs h
  paths_of front n own (t_extension name inner m) h e = paths_of front n own inner h e
  paths_of front n own t h e = leaf_path front n own t h e

  pub paths_behind : (front : List InitNested) (f : FieldTree) → AreAbove front → ArePaths front (field_columns f) (leaf_types f) (field_paths front f)
  paths_behind front (field name t n m) h = paths_of front n t t h refl

  paths_from : (front : List InitNested) (n : Bool) (place : ℕ) (fs : FieldTrees) → AreAbove front → ArePaths front (columns_from n place fs) (all_leaf_types fs) (fields_paths (front ++ Struct n ∷ []) fs)
  paths_from front n place no_fields h = tt
  paths_from front n place (more_fields f fs) h =
      paths_append front (map (beneath_struct n place) (field_columns f)) (columns_from n (suc place) fs) (leaf_types f) (all_leaf_types fs) (field_paths (front ++ Struct n ∷ []) f) (fields_paths (front ++ Struct n ∷ []) fs)
      (out_of_struct front n place (field_columns f) (leaf_types f) (field_paths (front ++ Struct n ∷ []) f) (paths_behind (front ++ Struct n ∷ []) f (above_struct front n h)))
      (paths_from front n (suc place) fs h)

pub all_paths : (f : FieldTree) → ArePaths [] (field_columns f) (leaf_types f) (field_paths [] f)
all_paths f = paths_behind [] f tt

-- ---- a field that is read and without empty structs has no fault

mutual
  sound_of : (n : Bool) (t : TypeTree) → reads_nodes t ≡ true → HasNoEmptyStruct (type_shape n t) → type_fault t ≡ None
  sound_of n (t_list item) s h = sound item s h
  sound_of n (t_large_list item) s h = sound item s h
  sound_of n (t_fixed_size_list item w) s h = absurd (true≢false (sym s))
  sound_of n (t_map entry sorted) s h = sound entry s h
  sound_of n (t_struct no_fields) s h = absurd h
  sound_of n (t_struct (more_fields f fs)) s h =
      let a = and_parts _ _ s in ap (λ o. first_of_two o (fields_fault fs)) (sound f a.0 h.0) ∙ all_sound fs a.1 h.1
  sound_of n (t_union fs ids sparse) s h = absurd (true≢false (sym s))
  sound_of n (t_dictionary k t sorted) s h = ap entries_fault s
  sound_of n (t_extension name inner m) s h = sound_of n inner s h
  sound_of n t s h = refl

  pub sound : (f : FieldTree) → reads_nodes_of f ≡ true → HasNoEmptyStruct (shape_of f) → field_fault f ≡ None
  sound (field name t n m) s h = sound_of n t s h

  all_sound : (fs : FieldTrees) → reads_nodes_of_all fs ≡ true → HaveNoEmptyStruct (shapes_of fs) → fields_fault fs ≡ None
  all_sound no_fields s h = refl
  all_sound (more_fields f fs) s h = let a = and_parts _ _ s in ap (λ o. first_of_two o (fields_fault fs)) (sound f a.0 h.0) ∙ all_sound fs a.1 h.1

-- ---- no fault, no empty struct

pub some-none : (e : Error) → Some e ≡ None → ⊥
some-none e h = cc

two-none : (o q : Option Error) → first_of_two o q ≡ None → (o ≡ None) × (q ≡ None)
two-none None q h = (refl, h)
two-none (Some e) q h = absurd (some-none e h)

-- entries without parts
without_parts : (b : Bool) → entries_fault b ≡ None → b ≡ true
without_parts true h = refl
without_parts false h = absurd (some-none _ h)

filled_entries : (n : Bool) (t : TypeTree) → has_no_parts (base t) ≡ true → HasNoEmptyStruct (type_shape n t)
filled_entries n (t_extension name inner m) h = filled_entries n inner h
filled_entries n (t_list item) h = absurd (true≢false (sym h))
filled_entries n (t_large_list item) h = absurd (true≢false (sym h))
filled_entries n (t_fixed_size_list item w) h = absurd (true≢false (sym h))
filled_entries n (t_map entry sorted) h = absurd (true≢false (sym h))
filled_entries n (t_struct fs) h = absurd (true≢false (sym h))
filled_entries n (t_dictionary k t sorted) h = absurd (true≢false (sym h))
filled_entries n t h = tt

mutual
  no_empty_of : (n : Bool) (t : TypeTree) → type_fault t ≡ None → HasNoEmptyStruct (type_shape n t)
  no_empty_of n (t_list item) h = no_empty item h
  no_empty_of n (t_large_list item) h = no_empty item h
  no_empty_of n (t_fixed_size_list item w) h = absurd (some-none _ h)
  no_empty_of n (t_map entry sorted) h = no_empty entry h
  no_empty_of n (t_struct no_fields) h = absurd (some-none _ h)
  no_empty_of n (t_struct (more_fields f fs)) h = let a = two-none (field_fault f) (fields_fault fs) h in (no_empty f a.0, none_empty fs a.1)
  no_empty_of n (t_union fs ids sparse) h = absurd (some-none _ h)
  no_empty_of n (t_dictionary k t sorted) h = filled_entries n t (without_parts (has_no_parts (base t)) h)
  no_empty_of n (t_extension name inner m) h = no_empty_of n inner h
  no_empty_of n t h = tt

  pub no_empty : (f : FieldTree) → field_fault f ≡ None → HasNoEmptyStruct (shape_of f)
  no_empty (field name t n m) h = no_empty_of n t h

  none_empty : (fs : FieldTrees) → fields_fault fs ≡ None → HaveNoEmptyStruct (shapes_of fs)
  none_empty no_fields h = tt
  none_empty (more_fields f fs) h = let a = two-none (field_fault f) (fields_fault fs) h in (no_empty f a.0, none_empty fs a.1)

unfaulty : (o : Option Error) → is_some o ≡ false → o ≡ None
unfaulty None h = refl
unfaulty (Some e) h = absurd (true≢false h)

pub no_empty_struct : (f : FieldTree) → is_some (field_fault f) ≡ false → HasNoEmptyStruct (shape_of f)
no_empty_struct f h = no_empty f (unfaulty (field_fault f) h)

-- a struct with a field has no fault of its own
pub some_fields : (items : List Field) → 0 < length items → struct_fault (fields_view items) ≡ fields_fault (fields_view items)
some_fields [] h = absurd (omega arith)
some_fields (f ∷ items) h = refl

-- a map's type as a tree
pub map_view : (entry : Box Field Global) (s : Bool) → type_view (D.Map entry s) ≡ t_map (field_view entry.value) s
map_view entry s = search (the_lemmas, rules)

-- ---- a fault is A8 or N5

abbrev IsA8OrN5 : Error → Type 0
IsA8OrN5 e = (e ≡ InvalidArgumentError A8) ⊎ (e ≡ NotYetImplemented N5)

some-same : (e q : Error) → Some e ≡ Some q → q ≡ e
some-same e q h = cc

of_two : (o q : Option Error) (e : Error) → (o ≡ Some e → IsA8OrN5 e) → (q ≡ Some e → IsA8OrN5 e) → first_of_two o q ≡ Some e → IsA8OrN5 e
of_two None q e f g h = g h
of_two (Some d) q e f g h = f h

entries_fault_is : (b : Bool) (e : Error) → entries_fault b ≡ Some e → e ≡ NotYetImplemented N5
entries_fault_is true e h = absurd (some-none e (sym h))
entries_fault_is false e h = some-same _ e h

mutual
  type_fault_is : (t : TypeTree) (e : Error) → type_fault t ≡ Some e → IsA8OrN5 e
  type_fault_is (t_list item) e h = fault_is item e h
  type_fault_is (t_large_list item) e h = fault_is item e h
  type_fault_is (t_fixed_size_list item w) e h = inr (some-same _ e h)
  type_fault_is (t_map entry sorted) e h = fault_is entry e h
  type_fault_is (t_struct fs) e h = struct_fault_is fs e h
  type_fault_is (t_union fs ids sparse) e h = inr (some-same _ e h)
  type_fault_is (t_dictionary k t sorted) e h = inr (entries_fault_is (has_no_parts (base t)) e h)
  type_fault_is (t_extension name inner m) e h = type_fault_is inner e h
  type_fault_is t e h = absurd (some-none e (sym h))

  pub fault_is : (f : FieldTree) (e : Error) → field_fault f ≡ Some e → IsA8OrN5 e
  fault_is (field name t n m) e h = type_fault_is t e h

  struct_fault_is : (fs : FieldTrees) (e : Error) → struct_fault fs ≡ Some e → IsA8OrN5 e
  struct_fault_is no_fields e h = inl (some-same _ e h)
  struct_fault_is (more_fields f fs) e h = of_two (field_fault f) (fields_fault fs) e (fault_is f e) (fields_fault_is fs e) h

  fields_fault_is : (fs : FieldTrees) (e : Error) → fields_fault fs ≡ Some e → IsA8OrN5 e
  fields_fault_is no_fields e h = absurd (some-none e (sym h))
  fields_fault_is (more_fields f fs) e h = of_two (field_fault f) (fields_fault fs) e (fault_is f e) (fields_fault_is fs e) h
