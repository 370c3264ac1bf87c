-- The leaves of a field's own tree, and their encodings.
use Rattle.std.proofs.Common.{◌≡◌, ℕ, suc, Bool, true, false, List, [], ◌∷◌, ◌++◌, length, map, refl, sym, ap, ◌∙◌, arith, length-append, true≢false}
use Rattle.std.proofs.lemmas.Bool.{and_parts}
use Rattle.std.proofs.lemmas.List.{length-map}
use Rattle.std.specs.List.{AllZip}
use Rattle.shredding.specs.Shape.{HasNoEmptyStruct}
use Rattle.columns_core.specs.Shapes.{shape_of}
use Rattle.columns_core.specs.Tree.{TypeTree, t_list, t_fixed_size_list, t_large_list, t_struct, t_union, t_map, t_dictionary, t_extension, FieldTree, field, FieldTrees, no_fields, more_fields}
use Rattle.pq_tree.specs.Tree.{Leaf, leaves, leaves_of, columns_of}
use Rattle.pq_files.specs.Page.{Encoding, plain}
use Rattle.schema_map.specs.Rows.{HasRows}
use Rattle.schema_map.specs.Laws.{RowsDecide}
use Rattle.schema_to_tree.specs.Table.{schema_of, tree_of, trees_of}
use Rattle.pq_headline.specs.Columns.{ArrowColumn, field_columns, type_columns, columns_from, schema_columns, beneath_list, beneath_struct, small_limit, large_limit, is_dictionary}
use Rattle.pq_headline.specs.Openings.{AreAlike, CanBeWritten}
use Rattle.pq_headline.specs.Output.{all_chosen}
use Rattle.pq_headline.specs.Served.{is_served_type, is_served_field, are_served_fields}
use Rattle.pq_headline.proofs.Alike.{fitting_alike}

-- ---- as many leaves

zipped : {A B : Type 0} (R : A → B → Type 0) (xs : List A) (ys : List B) → AllZip R xs ys → length xs ≡ length ys
zipped R [] [] h = refl
zipped R [] (y ∷ ys) h = absurd h
zipped R (x ∷ xs) [] h = absurd h
zipped R (x ∷ xs) (y ∷ ys) h = ap (λ n. suc n) (zipped R xs ys h.1)

pub own : RowsDecide → (f : FieldTree) → HasRows f → HasNoEmptyStruct (shape_of f) → length (field_columns f) ≡ length (leaves (tree_of f))
own law f r s = let a : AreAlike f (leaves (tree_of f)) = fitting_alike f (tree_of f) s ((law f).1 r) in zipped _ (field_columns f) (leaves (tree_of f)) a.are

pub as_many : RowsDecide → (f : FieldTree) (ls : List Leaf) → HasRows f → HasNoEmptyStruct (shape_of f) → AreAlike f ls → length ls ≡ length (leaves (tree_of f))
as_many law f ls r s a = sym (zipped _ (field_columns f) ls a.are) ∙ own law f r s

-- ---- no dictionaries

abbrev pub NoKeys : List ArrowColumn → Type 0
NoKeys [] = Unit {0}
NoKeys (c ∷ cs) = (is_dictionary c.data_type ≡ false) × NoKeys cs

under_list : (b : Bool) (limit : ℕ) (cs : List ArrowColumn) → NoKeys cs → NoKeys (map (beneath_list b limit) cs)
under_list b limit [] h = tt
under_list b limit (c ∷ cs) h = (h.0, under_list b limit cs h.1)

under_struct : (b : Bool) (i : ℕ) (cs : List ArrowColumn) → NoKeys cs → NoKeys (map (beneath_struct b i) cs)
under_struct b i [] h = tt
under_struct b i (c ∷ cs) h = (h.0, under_struct b i cs h.1)

both : (cs ds : List ArrowColumn) → NoKeys cs → NoKeys ds → NoKeys (cs ++ ds)
both [] ds h k = k
both (c ∷ cs) ds h k = (h.0, both cs ds h.1 k)

mutual
  pub type_keys : (b : Bool) (t : TypeTree) → is_served_type t ≡ true → NoKeys (type_columns b t)
  type_keys b (t_list f) s = under_list b small_limit (field_columns f) (field_keys f s)
  type_keys b (t_large_list f) s = under_list b large_limit (field_columns f) (field_keys f s)
  type_keys b (t_map f sorted) s = under_list b small_limit (field_columns f) (field_keys f s)
  type_keys b (t_struct fs) s = fields_keys b 0 fs s
  type_keys b (t_extension name t m) s = type_keys b t s
  type_keys b (t_fixed_size_list f n) s = absurd (true≢false (sym s))
  type_keys b (t_union fs ids sparse) s = absurd (true≢false (sym s))
  type_keys b (t_dictionary key t sorted) s = absurd (true≢false (sym s))
  type_keys b t s = (refl, tt)

  pub field_keys : (f : FieldTree) → is_served_field f ≡ true → NoKeys (field_columns f)
  field_keys (field name t b m) s = type_keys b t s

  pub fields_keys : (b : Bool) (i : ℕ) (fs : FieldTrees) → are_served_fields fs ≡ true → NoKeys (columns_from b i fs)
  fields_keys b i no_fields s = tt
  fields_keys b i (more_fields f fs) s =
      let ss = and_parts (is_served_field f) (are_served_fields fs) s in
      both (map (beneath_struct b i) (field_columns f)) (columns_from b (suc i) fs) (under_struct b i (field_columns f) (field_keys f ss.0)) (fields_keys b (suc i) fs ss.1)

chosen_plain : (cs : List ArrowColumn) (ls : List Leaf) → length cs ≡ length ls → NoKeys cs → all_chosen false cs ls ≡ map (λ _. plain) ls
chosen_plain [] [] e k = refl
chosen_plain [] (l ∷ ls) e k = absurd (omega (arith, e))
chosen_plain (c ∷ cs) [] e k = absurd (omega (arith, e))
chosen_plain (c ∷ cs) (l ∷ ls) e k = rw k.0 (ap (λ (q : List Encoding). plain ∷ q) (chosen_plain cs ls (omega (arith, e)) k.1))

pub counts : RowsDecide → (b : Bool) (i : ℕ) (fs : FieldTrees) → CanBeWritten fs → length (columns_from b i fs) ≡ length (leaves_of (trees_of fs))
counts law b i no_fields h = refl
counts law b i (more_fields f fs) h =
    let one : length (map (beneath_struct b i) (field_columns f)) ≡ length (leaves (tree_of f)) = length-map (field_columns f) (beneath_struct b i) ∙ own law f h.0 h.1 in
    let rest : length (columns_from b (suc i) fs) ≡ length (leaves_of (trees_of fs)) = counts law b (suc i) fs h.2 in
    length-append (map (beneath_struct b i) (field_columns f)) (columns_from b (suc i) fs) ∙ omega (arith, one, rest) ∙ sym (length-append (leaves (tree_of f)) (leaves_of (trees_of fs)))

pub all_plain : RowsDecide → (fs : FieldTrees) → CanBeWritten fs → are_served_fields fs ≡ true → all_chosen false (schema_columns fs) (columns_of (schema_of fs)) ≡ map (λ _. plain) (columns_of (schema_of fs))
all_plain law fs h s = chosen_plain (schema_columns fs) (columns_of (schema_of fs)) (counts law false 0 fs h) (fields_keys false 0 fs s)
