-- The text of a footer is no longer than its room.
use Rattle.std.proofs.Common.{◌≡◌, ℕ, suc, ◌+◌, ◌-◌, ◌*◌, ◌^◌, ◌<◌, ◌≤◌, ◌-ℤ◌, ◌==◌, ℤ, pos, Bool, true, false, cond, nat_eq, List, [], ◌∷◌, length, map, All, Option, Some, None, refl, ap, arith}
use Rattle.std.specs.Prelude.{option_map, ◌&&◌}
use Rattle.std.specs.List.{sum_by}
use Rattle.std.proofs.lemmas.Bool.Decides.{nat_tests}
use Rattle.std.proofs.lemmas.Int.{ints}
use Rattle.std.proofs.lemmas.List.{length-append, length-map}
use Rattle.std.proofs.lemmas.List.Sums.{sum_by-cons}
use Rattle.pq_thrift.specs.Spelling.{short, spell, Fits}
use Rattle.pq_thrift.specs.Value.{Value, int16, int32, int64, binary, Fields, no_fields, values_of}
use Rattle.pq_thrift.proofs.Lengths.{varint_of_32, head_most, most, most_values, most_fields, spell_short}
use Rattle.pq_metadata.specs.Elements.{number_of_repetition}
use Rattle.pq_metadata.specs.Footer.{ChunkStatistics, Key}
use Rattle.pq_tree.specs.Physical.{Physical}
use Rattle.pq_tree.specs.Tree.{Tree, leaf, group, Trees, no_trees, tree, Leaf, leaves, leaves_of, under, columns_of, Element, preorder, preorder_of}
use Rattle.pq_tree.specs.Types.{TimeUnit, Converted, Logical, Info}
use Rattle.pq_files.specs.FooterRecord.{ColumnChunk, RowGroup, FileMetaData}
use Rattle.pq_files.specs.Room.{bytes_of, node_room, schema_key, are_same, key_room, bounds_room, name_room, chunk_room, group_room, footer_room, IsBrief, max_size}
use Rattle.pq_files.specs.Written.{at, at_some, i32, one, empty, number_of_converted, logical_value, length_of, scale_of, precision_of, annotations, repetition_value, element_of, element_value, key_value, keys_value, statistics_value, chunk_value, group_value, tree_root, orders_value, footer_value}
use Rattle.pq_files.proofs.Unique.{Every, every}

-- ---- fields in the order of their ids, from 1 to 15: a head has one byte

abbrev option_most : Option Value → ℕ
option_most None = 0
option_most (Some v) = most v

-- the fields take at most so many bytes behind each id below theirs
abbrev Within : Fields → ℕ → ℕ → Type 0
Within fs id n = (last : ℕ) → last < id → most_fields fs (pos last) ≤ n

step : (n : ℕ) → 0 < n → n < 16 → ◌≡◌ {A = ℕ} (cond (short (pos n) == 0) 4 1) 1
step n some few = grind (arith, nat_tests)

step_head : (last id : ℕ) → last < id → id ≤ 15 → head_most (pos last) (pos id) ≡ 1
step_head last id h few =
    let e : pos id -ℤ pos last ≡ pos (id - last) = omega (arith, ints) in
    rw e (step (id - last) (omega arith) (omega arith))

none_within : (id : ℕ) → Within no_fields id 1
none_within id last h = omega arith

at_within : (id next k n : ℕ) (v : Value) (fs : Fields) → id ≤ 15 → id < next → most v ≤ k → Within fs next n → Within (at id v fs) id (1 + k + n)
at_within id next k n v fs few up h rest last below = omega (arith, step_head last id below few, rest id up)

at_some-within : (id next k n : ℕ) (o : Option Value) (fs : Fields) → id ≤ 15 → id < next → option_most o ≤ k → Within fs next n → Within (at_some id o fs) id (1 + k + n)
at_some-within id next k n None fs few up h rest last below = omega (arith, rest last (omega (arith, below, up)))
at_some-within id next k n (Some v) fs few up h rest last below = at_within id next k n v fs few up h rest last below

-- ---- lists

values_within : {A : Type 0} (f : A → Value) (room : A → ℕ) (P : A → Type 0) → ((a : A) → P a → room a < 2 ^ 32 → most (f a) ≤ room a) → (xs : List A) → Every P xs → sum_by room xs < 2 ^ 32 → most_values (values_of (map f xs)) ≤ sum_by room xs
values_within f room P h [] p small = omega arith
values_within f room P h (x ∷ xs) p small =
    let sum : sum_by room (x ∷ xs) ≡ room x + sum_by room xs = sum_by-cons room x xs in
    omega (arith, sum, h x p.0 (omega (arith, small, sum)), values_within f room P h xs p.1 (omega (arith, small, sum)))

-- each of so many bytes
values_each : {A : Type 0} (f : A → Value) (n : ℕ) → ((a : A) → most (f a) ≤ n) → (xs : List A) → most_values (values_of (map f xs)) ≤ n * length xs
values_each f n h [] = omega arith
values_each f n h (x ∷ xs) = omega (arith, h x, values_each f n h xs)

every_one : {A : Type 0} (xs : List A) → Every (λ (a : A). Unit {0}) xs
every_one [] = tt
every_one (x ∷ xs) = (tt, every_one xs)

-- ---- statistics

text_within : (o : Option (List ℕ)) → bytes_of o < 2 ^ 32 → option_most (option_map binary o) ≤ 5 + bytes_of o
text_within None h = omega arith
text_within (Some s) h = omega (arith, varint_of_32 (length s) h)

number_within : (o : Option ℤ) → option_most (option_map int64 o) ≤ 10
number_within None = omega arith
number_within (Some z) = omega arith

statistics_within : (s : ChunkStatistics) → bounds_room (Some s) < 2 ^ 32 → most (statistics_value s) ≤ 24 + bounds_room (Some s)
statistics_within s h =
    let last = at_some-within 6 7 _ _ (option_map binary s.min_value) no_fields (omega arith) (omega arith) (text_within s.min_value (omega (arith, h))) (none_within 7) in
    let more = at_some-within 5 6 _ _ (option_map binary s.max_value) _ (omega arith) (omega arith) (text_within s.max_value (omega (arith, h))) last in
    let all = at_some-within 3 5 _ _ (option_map int64 s.null_count) _ (omega arith) (omega arith) (number_within s.null_count) more in
    omega (arith, all 0 (omega arith))

some_statistics_within : (o : Option ChunkStatistics) → bounds_room o < 2 ^ 32 → option_most (option_map statistics_value o) ≤ 24 + bounds_room o
some_statistics_within None h = omega arith
some_statistics_within (Some s) h = statistics_within s h

-- ---- chunks and groups

name_within : (s : List ℕ) → Unit {0} → name_room s < 2 ^ 32 → most (binary s) ≤ name_room s
name_within s p h = omega (arith, varint_of_32 (length s) (omega (arith, h)))

chunk_within : (c : ColumnChunk) → length c.meta_data.encodings ≤ 20 → chunk_room c < 2 ^ 32 → most (chunk_value c) ≤ chunk_room c
chunk_within c few h =
    let m = c.meta_data in
    let statistics = at_some-within 12 13 _ _ (option_map statistics_value m.statistics) no_fields (omega arith) (omega arith) (some_statistics_within m.statistics (omega (arith, h))) (none_within 13) in
    let dictionary = at_some-within 11 12 _ _ (option_map int64 m.dictionary_page_offset) _ (omega arith) (omega arith) (number_within m.dictionary_page_offset) statistics in
    let encodings = values_each int32 5 (λ z. omega arith) m.encodings in
    let path = values_within binary name_room (λ s. Unit {0}) name_within m.path_in_schema (every_one m.path_in_schema) (omega (arith, h)) in
    omega (arith, few, encodings, path, dictionary 9 (omega arith))

group_within : (g : RowGroup) → All (λ c. length c.meta_data.encodings ≤ 20) g.columns → group_room g < 2 ^ 32 → most (group_value g) ≤ group_room g
group_within g few h =
    let last = at_some-within 7 8 3 _ (option_map int16 g.ordinal) no_fields (omega arith) (omega arith) (ordinal g.ordinal) (none_within 8) in
    let columns = values_within chunk_value chunk_room (λ c. length c.meta_data.encodings ≤ 20) chunk_within g.columns (every (λ c. length c.meta_data.encodings ≤ 20) g.columns few) (omega (arith, h)) in
    omega (arith, columns, last 6 (omega arith))
  where
    ordinal : (o : Option ℤ) → option_most (option_map int16 o) ≤ 3
    ordinal None = omega arith
    ordinal (Some z) = omega arith

-- ---- elements

logical_within : (x : Logical) → most (logical_value x) ≤ 15
logical_within Logical.string = omega arith
logical_within Logical.map = omega arith
logical_within Logical.list = omega arith
logical_within Logical.enum = omega arith
logical_within (Logical.decimal p s) = omega arith
logical_within Logical.date = omega arith
logical_within (Logical.time adjusted TimeUnit.millis) = omega arith
logical_within (Logical.time adjusted TimeUnit.micros) = omega arith
logical_within (Logical.time adjusted TimeUnit.nanos) = omega arith
logical_within (Logical.timestamp adjusted TimeUnit.millis) = omega arith
logical_within (Logical.timestamp adjusted TimeUnit.micros) = omega arith
logical_within (Logical.timestamp adjusted TimeUnit.nanos) = omega arith
logical_within (Logical.integer w signed) = omega arith
logical_within Logical.unknown = omega arith
logical_within Logical.json = omega arith
logical_within Logical.bson = omega arith
logical_within Logical.uuid = omega arith

logicals_within : (o : Option Logical) → option_most (option_map logical_value o) ≤ 15
logicals_within None = omega arith
logicals_within (Some x) = logical_within x

converted_within : (o : Option Converted) → option_most (option_map (λ c. i32 (number_of_converted c)) o) ≤ 5
converted_within None = omega arith
converted_within (Some c) = omega arith

length_within : (p : Physical) → option_most (length_of p) ≤ 5
length_within (Physical.fixed n) = omega arith
length_within p = omega arith

scale_within : (o : Option Converted) → option_most (scale_of o) ≤ 5
scale_within (Some (Converted.decimal p s)) = omega arith
scale_within o = omega arith

precision_within : (o : Option Converted) → option_most (precision_of o) ≤ 5
precision_within (Some (Converted.decimal p s)) = omega arith
precision_within o = omega arith

signed_most : (z : ℤ) → most (int32 z) ≤ 5
signed_most z = omega arith

-- three bytes are left for a column's order
node_within : (p : Option Physical) (n : ℕ) (i : Info) → 128 + length i.name < 2 ^ 32 → most (element_of p n i) + 3 ≤ 128 + length i.name
node_within None n i h =
    let logical = at_some-within 10 11 15 _ (annotations i).1 no_fields (omega arith) (omega arith) (logicals_within i.logical) (none_within 11) in
    let converted = at_some-within 6 10 5 _ (annotations i).0 _ (omega arith) (omega arith) (converted_within i.converted) logical in
    omega (arith, varint_of_32 (length i.name) (omega (arith, h)), converted 5 (omega arith))
node_within (Some p) n i h =
    let logical = at_some-within 10 11 15 _ (annotations i).1 no_fields (omega arith) (omega arith) (logicals_within i.logical) (none_within 11) in
    let precision = at_some-within 8 10 5 _ (precision_of i.converted) _ (omega arith) (omega arith) (precision_within i.converted) logical in
    let scale = at_some-within 7 8 5 _ (scale_of i.converted) _ (omega arith) (omega arith) (scale_within i.converted) precision in
    let converted = at_some-within 6 7 5 _ (annotations i).0 _ (omega arith) (omega arith) (converted_within i.converted) scale in
    let annotated : Fields = at_some 6 (annotations i).0 (at_some 7 (scale_of i.converted) (at_some 8 (precision_of i.converted) (at_some 10 (annotations i).1 no_fields))) in
    let name = at_within 4 6 (5 + length i.name) 35 (binary i.name) annotated (omega arith) (omega arith) (omega (arith, varint_of_32 (length i.name) (omega (arith, h)))) converted in
    let repetition = at_within 3 4 5 (1 + (5 + length i.name) + 35) (repetition_value i) (at 4 (binary i.name) annotated) (omega arith) (omega arith) (signed_most (number_of_repetition i.repetition)) name in
    let fixed = at_some-within 2 3 5 (1 + 5 + (1 + (5 + length i.name) + 35)) (length_of p) (at 3 (repetition_value i) (at 4 (binary i.name) annotated)) (omega arith) (omega arith) (length_within p) repetition in
    omega (arith, fixed 1 (omega arith))

elements_within : (es : List Element) → sum_by node_room es < 2 ^ 32 → most_values (values_of (map element_value es)) + 3 * length es ≤ sum_by node_room es
elements_within [] h = omega arith
elements_within (e ∷ es) h =
    let sum : sum_by node_room (e ∷ es) ≡ node_room e + sum_by node_room es = sum_by-cons node_room e es in
    omega (arith, sum, node_within e.physical e.children e.info (omega (arith, h, sum)), elements_within es (omega (arith, h, sum)))

-- no more columns than nodes
mutual
  few_leaves : (t : Tree) → length (leaves t) ≤ length (preorder t)
  few_leaves (leaf info p) = omega arith
  few_leaves (group info ts) = omega (arith, length-map (leaves_of ts) (under info), few_columns ts)

  few_columns : (ts : Trees) → length (leaves_of ts) ≤ length (preorder_of ts)
  few_columns no_trees = omega arith
  few_columns (tree t ts) = omega (arith, length-append (leaves t) (leaves_of ts), length-append (preorder t) (preorder_of ts), few_leaves t, few_columns ts)

-- ---- keys

and_right : (a b : Bool) → a && b ≡ true → b ≡ true
and_right true b e = e
and_right false b e = cc e

same_length : (s t : List ℕ) → are_same s t ≡ true → length s ≡ length t
same_length [] [] e = refl
same_length [] (b ∷ t) e = cc e
same_length (a ∷ s) [] e = cc e
same_length (a ∷ s) (b ∷ t) e = ap suc (same_length s t (and_right (nat_eq a b) (are_same s t) e))

key_within : (k : Key) → Unit {0} → key_room k < 2 ^ 32 → most (key_value k) ≤ key_room k
key_within k p h = by_key (are_same k.key schema_key) (same_length k.key schema_key) h
  where
    by_key : (b : Bool) → (b ≡ true → length k.key ≡ length schema_key) → cond b (96 + bytes_of k.value) (32 + length k.key + bytes_of k.value) < 2 ^ 32 → most (key_value k) ≤ cond b (96 + bytes_of k.value) (32 + length k.key + bytes_of k.value)
    by_key true same small =
        let twelve : length k.key ≡ 12 = same refl in
        let value = at_some-within 2 3 _ _ (option_map binary k.value) no_fields (omega arith) (omega arith) (text_within k.value (omega (arith, small))) (none_within 3) in
        omega (arith, twelve, varint_of_32 (length k.key) (omega (arith, twelve)), value 1 (omega arith))
    by_key false same small =
        let value = at_some-within 2 3 _ _ (option_map binary k.value) no_fields (omega arith) (omega arith) (text_within k.value (omega (arith, small))) (none_within 3) in
        omega (arith, varint_of_32 (length k.key) (omega (arith, small)), value 1 (omega arith))

keys_within : (ks : List Key) → sum_by key_room ks < 2 ^ 32 → option_most (keys_value ks) ≤ 11 + sum_by key_room ks
keys_within [] h = omega arith
keys_within (k ∷ ks) h = omega (arith, values_within key_value key_room (λ x. Unit {0}) key_within (k ∷ ks) (every_one (k ∷ ks)) h)

-- ---- the footer

footer_within : (m : FileMetaData) → IsBrief m → footer_room m < 2 ^ 32 → most (footer_value m) ≤ footer_room m
footer_within m brief h =
    let s = m.schema in
    let root : most (tree_root s) ≤ 128 + length s.name = omega (arith, varint_of_32 (length s.name) (omega (arith, h))) in
    let nodes = elements_within (preorder_of s.fields) (omega (arith, h)) in
    let columns = values_each (λ (l : Leaf). one 1 empty) 3 (λ l. omega arith) (columns_of s) in
    let groups = values_within group_value group_room (λ g. All (λ c. length c.meta_data.encodings ≤ 20) g.columns) group_within m.row_groups (every (λ g. All (λ c. length c.meta_data.encodings ≤ 20) g.columns) m.row_groups brief.encodings) (omega (arith, h)) in
    let orders = at_within 7 8 (11 + 3 * length (columns_of s)) 1 (orders_value s) no_fields (omega arith) (omega arith) (omega (arith, columns)) (none_within 8) in
    let last : Fields = at 7 (orders_value s) no_fields in
    let after_author : ℕ = 1 + (11 + 3 * length (columns_of s)) + 1 in
    let author = at_within 6 7 4005 after_author (binary m.created_by) last (omega arith) (omega arith) (omega (arith, brief.author, varint_of_32 (length m.created_by) (omega (arith, brief.author)))) orders in
    let keys = at_some-within 5 6 (11 + sum_by key_room m.keys) (1 + 4005 + after_author) (keys_value m.keys) (at 6 (binary m.created_by) last) (omega arith) (omega arith) (keys_within m.keys (omega (arith, h))) author in
    omega (arith, root, nodes, groups, few_columns s.fields, keys 4 (omega arith))

pub footer_short : (m : FileMetaData) → IsBrief m → footer_room m ≤ max_size → Fits (footer_value m) → length (spell (footer_value m)) ≤ footer_room m
footer_short m brief h fits = omega (arith, spell_short (footer_value m) fits, footer_within m brief (omega (arith, h)))
