-- How deep the footer's value nests.
use Rattle.std.proofs.Common.{ℕ, ◌≤◌, List, [], ◌∷◌, map, Option, Some, None, option_map, arith}
use Rattle.std.proofs.Math.Nat.{max-le}
use Rattle.pq_thrift.specs.Grammar.{depth, values_depth, fields_depth}
use Rattle.pq_thrift.specs.Value.{Value, int16, int32, int64, binary, Fields, no_fields, values_of}
use Rattle.pq_metadata.specs.Elements.{number_of_repetition}
use Rattle.pq_metadata.specs.Footer.{ChunkStatistics, Key}
use Rattle.pq_tree.specs.Physical.{Physical}
use Rattle.pq_tree.specs.Tree.{Leaf, preorder_of, columns_of}
use Rattle.pq_tree.specs.Types.{Converted, Logical, Info}
use Rattle.pq_files.specs.FooterRecord.{ColumnMetaData, ColumnChunk, RowGroup, FileMetaData}
use Rattle.pq_files.specs.Written.{at, at_some, i32, one, empty, number_of_converted, logical_value, length_of, scale_of, precision_of, annotations, element_of, element_value, key_value, keys_value, statistics_value, column_value, chunk_value, group_value, orders_value, footer_value}

abbrev option_depth : Option Value → ℕ
option_depth None = 0
option_depth (Some v) = depth v

at_some-depth : (id d : ℕ) (o : Option Value) (fs : Fields) → option_depth o ≤ d → fields_depth fs ≤ d → fields_depth (at_some id o fs) ≤ d
at_some-depth id d None fs a b = b
at_some-depth id d (Some v) fs a b = max-le a b

mapped : {A : Type 0} (f : A → Value) (d : ℕ) → ((a : A) → depth (f a) ≤ d) → (o : Option A) → option_depth (option_map f o) ≤ d
mapped f d h None = omega arith
mapped f d h (Some a) = h a

all_of : {A : Type 0} (f : A → Value) (d : ℕ) → ((a : A) → depth (f a) ≤ d) → (xs : List A) → values_depth (values_of (map f xs)) ≤ d
all_of f d h [] = omega arith
all_of f d h (x ∷ xs) = max-le (h x) (all_of f d h xs)

pub statistics_nest : (s : ChunkStatistics) → depth (statistics_value s) ≤ 2
statistics_nest s =
    let last = at_some-depth 6 1 _ no_fields (mapped binary 1 (λ v. omega arith) s.min_value) (omega arith) in
    let more = at_some-depth 5 1 _ _ (mapped binary 1 (λ v. omega arith) s.max_value) last in
    let fields = at_some-depth 3 1 _ _ (mapped int64 1 (λ z. omega arith) s.null_count) more in
    omega (arith, fields)

pub some_statistics_nest : (id : ℕ) (s : Option ChunkStatistics) → fields_depth (at_some id (option_map statistics_value s) no_fields) ≤ 2
some_statistics_nest id s = at_some-depth id 2 _ no_fields (mapped statistics_value 2 statistics_nest s) (omega arith)

column_nests : (c : ColumnMetaData) → depth (column_value c) ≤ 6
column_nests c =
    let last = at_some-depth 12 5 _ no_fields (mapped statistics_value 5 (λ s. omega (arith, statistics_nest s)) c.statistics) (omega arith) in
    let rest = at_some-depth 11 5 _ _ (mapped int64 5 (λ z. omega arith) c.dictionary_page_offset) last in
    let encodings = all_of int32 1 (λ z. omega arith) c.encodings in
    let path = all_of binary 1 (λ s. omega arith) c.path_in_schema in
    omega (arith, encodings, path, rest)

chunk_nests : (c : ColumnChunk) → depth (chunk_value c) ≤ 8
chunk_nests c = omega (arith, column_nests c.meta_data)

group_nests : (g : RowGroup) → depth (group_value g) ≤ 10
group_nests g =
    let chunks = all_of chunk_value 8 chunk_nests g.columns in
    let last = at_some-depth 7 9 _ no_fields (mapped int16 9 (λ z. omega arith) g.ordinal) (omega arith) in
    omega (arith, chunks, last)

logical_nests : (x : Logical) → depth (logical_value x) ≤ 4
logical_nests Logical.string = omega arith
logical_nests Logical.map = omega arith
logical_nests Logical.list = omega arith
logical_nests Logical.enum = omega arith
logical_nests (Logical.decimal p s) = omega arith
logical_nests Logical.date = omega arith
logical_nests (Logical.time adjusted u) = omega arith
logical_nests (Logical.timestamp adjusted u) = omega arith
logical_nests (Logical.integer w signed) = omega arith
logical_nests Logical.unknown = omega arith
logical_nests Logical.json = omega arith
logical_nests Logical.bson = omega arith
logical_nests Logical.uuid = omega arith

length_nests : (p : Physical) → option_depth (length_of p) ≤ 4
length_nests (Physical.fixed n) = omega arith
length_nests p = omega arith

scale_nests : (c : Option Converted) → option_depth (scale_of c) ≤ 4
scale_nests (Some (Converted.decimal p s)) = omega arith
scale_nests c = omega arith

precision_nests : (c : Option Converted) → option_depth (precision_of c) ≤ 4
precision_nests (Some (Converted.decimal p s)) = omega arith
precision_nests c = omega arith

node_nests : (p : Option Physical) (n : ℕ) (i : Info) → depth (element_of p n i) ≤ 5
node_nests None n i =
    let logical = at_some-depth 10 4 _ no_fields (mapped logical_value 4 logical_nests i.logical) (omega arith) in
    let converted = at_some-depth 6 4 _ _ (mapped (λ c. i32 (number_of_converted c)) 4 (λ c. omega arith) i.converted) logical in
    omega (arith, converted)
node_nests (Some p) n i =
    let logical = at_some-depth 10 4 _ no_fields (mapped logical_value 4 logical_nests i.logical) (omega arith) in
    let decimal = at_some-depth 7 4 _ _ (scale_nests i.converted) (at_some-depth 8 4 _ _ (precision_nests i.converted) logical) in
    let converted = at_some-depth 6 4 _ _ (mapped (λ c. i32 (number_of_converted c)) 4 (λ c. omega arith) i.converted) decimal in
    let fields : Fields = at 3 (int32 (number_of_repetition i.repetition)) (at 4 (binary i.name) (at_some 6 (annotations i).0 (at_some 7 (scale_of i.converted) (at_some 8 (precision_of i.converted) (at_some 10 (annotations i).1 no_fields))))) in
    let named : fields_depth fields ≤ 4 = max-le (omega arith) (max-le (omega arith) converted) in
    omega (arith, at_some-depth 2 4 (length_of p) fields (length_nests p) named)

key_nests : (k : Key) → depth (key_value k) ≤ 2
key_nests k =
    let last = at_some-depth 2 1 _ no_fields (mapped binary 1 (λ s. omega arith) k.value) (omega arith) in
    omega (arith, last)

keys_nest : (ks : List Key) → option_depth (keys_value ks) ≤ 20
keys_nest [] = omega arith
keys_nest (k ∷ ks) = omega (arith, all_of key_value 2 key_nests (k ∷ ks))

pub footer_nests : (m : FileMetaData) → depth (footer_value m) ≤ 128
footer_nests m =
    let elements = all_of element_value 5 (λ e. node_nests e.physical e.children e.info) (preorder_of m.schema.fields) in
    let groups = all_of group_value 10 group_nests m.row_groups in
    let orders = all_of (λ (l : Leaf). one 1 empty) 2 (λ l. omega arith) (columns_of m.schema) in
    let last : fields_depth (at 6 (binary m.created_by) (at 7 (orders_value m.schema) no_fields)) ≤ 20 = max-le (omega arith) (max-le (omega (arith, orders)) (omega arith)) in
    let keys = at_some-depth 5 20 (keys_value m.keys) (at 6 (binary m.created_by) (at 7 (orders_value m.schema) no_fields)) (keys_nest m.keys) last in
    omega (arith, elements, groups, keys)
