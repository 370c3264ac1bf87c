-- The footer's value can be written: each element of a list has the type that is stated for it.
use Rattle.std.proofs.Common.{ℕ, List, [], ◌∷◌, map, Option, Some, None, option_map, refl, arith}
use Rattle.pq_thrift.specs.Value.{Value, int16, int32, int64, binary, Fields, values_of}
use Rattle.pq_thrift.specs.Spelling.{IsOfType, IsWritable, AreWritable, AreFieldsWritable}
use Rattle.pq_metadata.specs.Footer.{ChunkStatistics, Key}
use Rattle.pq_tree.specs.Physical.{Physical}
use Rattle.pq_tree.specs.Tree.{Leaf, preorder_of, columns_of}
use Rattle.pq_tree.specs.Types.{Converted, Logical, Info}
use Rattle.pq_files.specs.FooterRecord.{ColumnMetaData, ColumnChunk, RowGroup, FileMetaData}
use Rattle.pq_files.specs.Written.{at_some, i32, one, empty, number_of_converted, logical_value, length_of, scale_of, precision_of, element_of, element_value, key_value, keys_value, statistics_value, column_value, chunk_value, group_value, footer_value}

abbrev SomeWritable : Option Value → Type 0
SomeWritable None = Unit {0}
SomeWritable (Some v) = IsWritable v

at_some-writable : (id : ℕ) (o : Option Value) (fs : Fields) → SomeWritable o → AreFieldsWritable fs → AreFieldsWritable (at_some id o fs)
at_some-writable id None fs a b = b
at_some-writable id (Some v) fs a b = (a, b)

mapped : {A : Type 0} (f : A → Value) → ((a : A) → IsWritable (f a)) → (o : Option A) → SomeWritable (option_map f o)
mapped f h None = tt
mapped f h (Some a) = h a

all_of : {A : Type 0} (number : ℕ) (f : A → Value) → ((a : A) → IsOfType number (f a)) → ((a : A) → IsWritable (f a)) → (xs : List A) → AreWritable (values_of (map f xs)) number
all_of number f t w [] = tt
all_of number f t w (x ∷ xs) = (t x, w x, all_of number f t w xs)

-- ---- groups

statistics_writable : (s : ChunkStatistics) → IsWritable (statistics_value s)
statistics_writable s =
    at_some-writable 3 _ _ (mapped int64 (λ z. tt) s.null_count)
    (at_some-writable 5 _ _ (mapped binary (λ v. tt) s.max_value) (at_some-writable 6 _ _ (mapped binary (λ v. tt) s.min_value) tt))

column_writable : (c : ColumnMetaData) → IsWritable (column_value c)
column_writable c =
    let rest = at_some-writable 11 _ _ (mapped int64 (λ z. tt) c.dictionary_page_offset) (at_some-writable 12 _ _ (mapped statistics_value statistics_writable c.statistics) tt) in
    let encodings = all_of 5 int32 (λ z. refl) (λ z. tt) c.encodings in
    let path = all_of 8 binary (λ s. refl) (λ s. tt) c.path_in_schema in
    (tt, ((omega arith, encodings), ((omega arith, path), (tt, (tt, (tt, (tt, (tt, rest))))))))

chunk_writable : (c : ColumnChunk) → IsWritable (chunk_value c)
chunk_writable c = (tt, (column_writable c.meta_data, tt))

group_writable : (g : RowGroup) → IsWritable (group_value g)
group_writable g =
    let chunks = all_of 12 chunk_value (λ c. refl) chunk_writable g.columns in
    ((omega arith, chunks), (tt, (tt, (tt, (tt, at_some-writable 7 _ _ (mapped int16 (λ z. tt) g.ordinal) tt)))))

-- ---- elements

logical_writable : (x : Logical) → IsWritable (logical_value x)
logical_writable Logical.string = (tt, tt)
logical_writable Logical.map = (tt, tt)
logical_writable Logical.list = (tt, tt)
logical_writable Logical.enum = (tt, tt)
logical_writable (Logical.decimal p s) = ((tt, (tt, tt)), tt)
logical_writable Logical.date = (tt, tt)
logical_writable (Logical.time adjusted u) = ((tt, ((tt, tt), tt)), tt)
logical_writable (Logical.timestamp adjusted u) = ((tt, ((tt, tt), tt)), tt)
logical_writable (Logical.integer w signed) = ((tt, (tt, tt)), tt)
logical_writable Logical.unknown = (tt, tt)
logical_writable Logical.json = (tt, tt)
logical_writable Logical.bson = (tt, tt)
logical_writable Logical.uuid = (tt, tt)

length_writable : (p : Physical) → SomeWritable (length_of p)
length_writable (Physical.fixed n) = tt
length_writable p = tt

scale_writable : (c : Option Converted) → SomeWritable (scale_of c)
scale_writable (Some (Converted.decimal p s)) = tt
scale_writable c = tt

precision_writable : (c : Option Converted) → SomeWritable (precision_of c)
precision_writable (Some (Converted.decimal p s)) = tt
precision_writable c = tt

node_writable : (p : Option Physical) (n : ℕ) (i : Info) → IsWritable (element_of p n i)
node_writable None n i =
    (tt, (tt, (tt, at_some-writable 6 _ _ (mapped (λ c. i32 (number_of_converted c)) (λ c. tt) i.converted) (at_some-writable 10 _ _ (mapped logical_value logical_writable i.logical) tt))))
node_writable (Some p) n i =
    let logical = at_some-writable 10 _ _ (mapped logical_value logical_writable i.logical) tt in
    let decimal = at_some-writable 7 _ _ (scale_writable i.converted) (at_some-writable 8 _ _ (precision_writable i.converted) logical) in
    (tt, at_some-writable 2 _ _ (length_writable p) (tt, (tt, at_some-writable 6 _ _ (mapped (λ c. i32 (number_of_converted c)) (λ c. tt) i.converted) decimal)))

node_type : (p : Option Physical) (n : ℕ) (i : Info) → IsOfType 12 (element_of p n i)
node_type None n i = refl
node_type (Some p) n i = refl

-- ---- the footer

key_writable : (k : Key) → IsWritable (key_value k)
key_writable k = (tt, at_some-writable 2 _ _ (mapped binary (λ s. tt) k.value) tt)

keys_writable : (ks : List Key) → SomeWritable (keys_value ks)
keys_writable [] = tt
keys_writable (k ∷ ks) = (omega arith, all_of 12 key_value (λ j. refl) key_writable (k ∷ ks))

pub footer_writable : (m : FileMetaData) → IsWritable (footer_value m)
footer_writable m =
    let elements = all_of 12 element_value (λ e. node_type e.physical e.children e.info) (λ e. node_writable e.physical e.children e.info) (preorder_of m.schema.fields) in
    let groups = all_of 12 group_value (λ g. refl) group_writable m.row_groups in
    let orders = all_of 12 (λ (l : Leaf). one 1 empty) (λ l. refl) (λ l. (tt, tt)) (columns_of m.schema) in
    (tt, ((omega arith, (refl, (tt, (tt, tt)), elements)), (tt, ((omega arith, groups), at_some-writable 5 _ _ (keys_writable m.keys) (tt, ((omega arith, orders), tt))))))
