-- The encodings that are chosen, and those that are used where they are asked for.
use Rattle.std.proofs.Common.{◌≡◌, ℕ, suc, Bool, true, false, true≢false, cond, Option, Some, List, [], ◌∷◌, ◌++◌, length, map, None, refl, sym, ap, ◌∙◌, arith}
use Rattle.std.specs.Prelude.{◌&&◌, is_some}
use Rattle.std.proofs.lemmas.List.{length-map}
use Rattle.columns_core.specs.declared.types.IntervalUnit.TheVariants.{MonthDayNano}
use Rattle.columns_core.specs.Tree.{TypeTree, t_null, t_float16, t_float32, t_float64, t_interval, t_decimal256, t_list, t_fixed_size_list, t_large_list, t_struct, t_union, t_map, t_dictionary, t_extension, FieldTrees, no_fields, more_fields}
use Rattle.columns_slots.specs.Types.{is_leaf}
use Rattle.columns_core.specs.Shapes.{base, leaf_type}
use Rattle.pq_files.specs.Layout.{delta_of}
use Rattle.pq_files.specs.Page.{Encoding, plain, dictionary, delta, delta_length}
use Rattle.pq_headline.proofs.Plain.{NoKeys, type_keys}
use Rattle.pq_headline.specs.Columns.{ArrowColumn, beneath_list, beneath_struct, columns_from, field_columns, is_dictionary, is_flat, large_limit, schema_columns, small_limit, type_columns}
use Rattle.pq_headline.specs.Output.{all_chosen, chosen}
use Rattle.pq_headline.specs.Served.{is_served_type}
use Rattle.pq_tree.specs.Physical.{Physical}
use Rattle.pq_tree.specs.Tree.{Leaf, columns_of}
use Rattle.pq_tree.specs.declared.types.Encoding.{Encoding as RustEncoding}
use Rattle.schema_to_tree.specs.Table.{schema_of}
use Rattle.columns_slots.specs.Slots.{first_len}
use Rattle.pq_headline.specs.Arrays.{all_entries}
use Rattle.shredding.specs.Shape.{LeafType, nothing}
use Rattle.write_pages.specs.Entries.{Entries}
use Rattle.write_pages.specs.Holds.{encoding_view}
use Rattle.write_values.specs.Deltas.{encoding_name}
use Rattle.write_groups.proofs.Keyed.{AreKeyed, all_keyed}
use Rattle.write_groups.specs.Laid.{AreUsed, ChosenAreUsed, field_encoding, used_encoding, value_encoding}

pub chosen-append : (wanted : Bool) (cs ds : List ArrowColumn) (ls ks : List Leaf) → length cs ≡ length ls → all_chosen wanted (cs ++ ds) (ls ++ ks) ≡ all_chosen wanted cs ls ++ all_chosen wanted ds ks
chosen-append wanted [] ds [] ks e = refl
chosen-append wanted [] ds (l ∷ ls) ks e = absurd (omega (arith, e))
chosen-append wanted (c ∷ cs) ds [] ks e = absurd (omega (arith, e))
chosen-append wanted (c ∷ cs) ds (l ∷ ls) ks e = ap (λ (xs : List Encoding). chosen wanted c l ∷ xs) (chosen-append wanted cs ds ls ks (omega (arith, e)))

no_deltas : (wanted : Bool) (x : Encoding) → cond (wanted && false) x plain ≡ plain
no_deltas true x = refl
no_deltas false x = refl

either : (b : Bool) → cond b plain plain ≡ plain
either true = refl
either false = refl

-- ---- what is chosen is used

viewed : (x : Encoding) → encoding_view (encoding_name x) ≡ Some x
viewed plain = refl
viewed dictionary = refl
viewed delta = refl
viewed delta_length = refl

or_that : Encoding → Option Encoding → Encoding
or_that d None = d
or_that d (Some x) = x

same_encoding : (x y : Encoding) → ◌≡◌ {A = Option Encoding} (Some x) (Some y) → x ≡ y
unfolding or_that
same_encoding x y e = ap (or_that x) e

value_is : (t : LeafType) (flat wanted : Bool) (p : Physical) → value_encoding t flat (encoding_name (cond (wanted && flat) (delta_of t p) plain)) ≡ Some (cond (wanted && flat) (delta_of t p) plain)
value_is nothing flat wanted p = ap Some (sym (either (wanted && flat)))
value_is t false wanted p = ap Some (sym (no_deltas wanted (delta_of t p)))
value_is t true wanted p = viewed (cond (wanted && true) (delta_of t p) plain)

used_chosen : (wanted : Bool) (c : ArrowColumn) (l : Leaf) (d : Entries) (x : Encoding) → is_some d ≡ is_dictionary c.data_type → used_encoding c d (encoding_name (chosen wanted c l)) ≡ Some x → x ≡ chosen wanted c l
used_chosen wanted c l None x k u =
    let y = cond (wanted && is_flat c) (delta_of (leaf_type c.data_type) l.physical) plain in
    let is : y ≡ chosen wanted c l = ap (λ (b : Bool). cond b dictionary y) k in
    same_encoding x y (sym u ∙ (ap (λ (q : Encoding). value_encoding (leaf_type c.data_type) (is_flat c) (encoding_name q)) (sym is) ∙ value_is (leaf_type c.data_type) (is_flat c) wanted l.physical)) ∙ is
used_chosen wanted c l (Some es) x k u =
    let y = cond (wanted && is_flat c) (delta_of (leaf_type c.data_type) l.physical) plain in
    sym (same_encoding dictionary x u) ∙ ap (λ (b : Bool). cond b dictionary y) k

all_used : (wanted : Bool) (cs : List ArrowColumn) (ls : List Leaf) (ds : List Entries) (xs : List Encoding) → AreKeyed cs ds → AreUsed cs ds (map encoding_name (all_chosen wanted cs ls)) xs → xs ≡ all_chosen wanted cs ls
all_used wanted [] ls [] [] k u = refl
all_used wanted (c ∷ cs) (l ∷ ls) (d ∷ ds) (x ∷ xs) k u =
    let one : x ≡ chosen wanted c l = used_chosen wanted c l d x k.0 u.0 in
    let rest : xs ≡ all_chosen wanted cs ls = all_used wanted cs ls ds xs k.1 u.1 in
    λ i. one i ∷ rest i
all_used wanted (c ∷ cs) [] [] xs k u = absurd k
all_used wanted (c ∷ cs) [] (d ∷ ds) xs k u = absurd u
all_used wanted cs ls ds xs k u = absurd u

pub chosen_used : ChosenAreUsed
chosen_used wanted fs cs xs typed sound u = all_used wanted (schema_columns fs) (columns_of (schema_of fs)) (all_entries cs) xs (all_keyed cs fs false 0 (first_len cs) sound typed) u

-- ---- columns that are not flat

AllNested : List ArrowColumn → Type 0
AllNested [] = Unit {0}
AllNested (c ∷ cs) = (is_flat c ≡ false) × AllNested cs

nested_plain : (wanted : Bool) (c : ArrowColumn) (l : Leaf) → is_dictionary c.data_type ≡ false → is_flat c ≡ false → chosen wanted c l ≡ plain
nested_plain wanted c l k f = rw (k, f) (no_deltas wanted (delta_of (leaf_type c.data_type) l.physical))

nested_named : (wanted : Bool) (cs : List ArrowColumn) (ls : List Leaf) (named : Leaf → Encoding) → ((l : Leaf) → named l ≡ plain) → AllNested cs → NoKeys cs → length cs ≡ length ls → map (λ l. encoding_name (named l)) ls ≡ map encoding_name (all_chosen wanted cs ls)
unfolding AllNested
nested_named wanted [] [] named p h k e = refl
nested_named wanted [] (l ∷ ls) named p h k e = absurd (omega (arith, e))
nested_named wanted (c ∷ cs) [] named p h k e = absurd (omega (arith, e))
nested_named wanted (c ∷ cs) (l ∷ ls) named p h k e =
    let one : encoding_name (named l) ≡ encoding_name (chosen wanted c l) = ap encoding_name (p l ∙ sym (nested_plain wanted c l k.0 h.0)) in
    let rest : map (λ l. encoding_name (named l)) ls ≡ map encoding_name (all_chosen wanted cs ls) = nested_named wanted cs ls named p h.1 k.1 (omega (arith, e)) in
    λ i. one i ∷ rest i

beneath_lists : (is_nullable : Bool) (limit place : ℕ) (cs : List ArrowColumn) → AllNested (map (beneath_struct false place) (map (beneath_list is_nullable limit) cs))
unfolding AllNested
beneath_lists is_nullable limit place [] = tt
beneath_lists is_nullable limit place (c ∷ cs) = (refl, beneath_lists is_nullable limit place cs)

beneath_structs : (is_nullable : Bool) (i place : ℕ) (cs ds : List ArrowColumn) → AllNested (map (beneath_struct false place) ds) → AllNested (map (beneath_struct false place) (map (beneath_struct is_nullable i) cs ++ ds))
unfolding AllNested
beneath_structs is_nullable i place [] ds h = h
beneath_structs is_nullable i place (c ∷ cs) ds h = (refl, beneath_structs is_nullable i place cs ds h)

all_beneath : (is_nullable : Bool) (i place : ℕ) (fs : FieldTrees) → AllNested (map (beneath_struct false place) (columns_from is_nullable i fs))
unfolding AllNested
all_beneath is_nullable i place no_fields = tt
all_beneath is_nullable i place (more_fields f fs) = beneath_structs is_nullable i place (field_columns f) (columns_from is_nullable (suc i) fs) (all_beneath is_nullable (suc i) place fs)

keys_beneath : (place : ℕ) (cs : List ArrowColumn) → NoKeys cs → NoKeys (map (beneath_struct false place) cs)
keys_beneath place [] h = tt
keys_beneath place (c ∷ cs) h = (h.0, keys_beneath place cs h.1)

-- ---- the columns of a field of a served type

module _ (wanted : Bool) (place : ℕ) where
  abbrev IsOwn : Bool → TypeTree → Type 0
  IsOwn b t =
      (ls : List Leaf) → is_served_type t ≡ true → length (type_columns b t) ≡ length ls
      → map (λ l. encoding_name (field_encoding wanted t l)) ls ≡ map encoding_name (all_chosen wanted (map (beneath_struct false place) (type_columns b t)) ls)

  nested : (b : Bool) (t : TypeTree) → is_leaf (base t) ≡ false → AllNested (map (beneath_struct false place) (type_columns b t)) → IsOwn b t
  nested b t deep h ls s e =
      let cs = type_columns b t in
      nested_named wanted (map (beneath_struct false place) cs) ls (field_encoding wanted t) (λ l. rw deep (no_deltas wanted (delta_of (leaf_type t) l.physical))) h (keys_beneath place cs (type_keys b t s)) (length-map cs (beneath_struct false place) ∙ e)

  both_plain : ◌≡◌ {A = List RustEncoding} (encoding_name (cond (wanted && false) plain plain) ∷ []) (encoding_name (cond (wanted && true) plain plain) ∷ [])
  both_plain = ap (λ (q : Encoding). encoding_name q ∷ []) (either (wanted && false) ∙ sym (either (wanted && true)))

  pub own_named : (b : Bool) (t : TypeTree) → IsOwn b t
  own_named b (t_extension n t m) ls s e = own_named b t ls s e
  own_named b (t_list f) ls s e = nested b (t_list f) refl (beneath_lists b small_limit place (field_columns f)) ls s e
  own_named b (t_large_list f) ls s e = nested b (t_large_list f) refl (beneath_lists b large_limit place (field_columns f)) ls s e
  own_named b (t_map f z) ls s e = nested b (t_map f z) refl (beneath_lists b small_limit place (field_columns f)) ls s e
  own_named b (t_struct fs) ls s e = nested b (t_struct fs) refl (all_beneath b 0 place fs) ls s e
  own_named b (t_fixed_size_list f n) ls s e = absurd (true≢false (sym s))
  own_named b (t_union fs ids z) ls s e = absurd (true≢false (sym s))
  own_named b (t_dictionary key t z) ls s e = absurd (true≢false (sym s))
  own_named b t_null (l ∷ []) s e = both_plain
  own_named b t_float16 (l ∷ []) s e = both_plain
  own_named b t_float32 (l ∷ []) s e = both_plain
  own_named b t_float64 (l ∷ []) s e = both_plain
  own_named b (t_decimal256 p k) (l ∷ []) s e = both_plain
  own_named b (t_interval MonthDayNano) (l ∷ []) s e = both_plain
  own_named b t [] s e = absurd (omega (arith, e))
  own_named b t (l ∷ k ∷ ls) s e = absurd (omega (arith, e))
  own_named b t (l ∷ []) s e = refl
