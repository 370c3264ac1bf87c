-- What a reader finds in a footer's value.
use Rattle.std.proofs.Common.{◌≡◌, ℕ, ℤ, List, [], ◌∷◌, map, All, Option, Some, None, refl}
use Rattle.std.specs.Prelude.{option_map, IfSome, IsUtf8}
use Rattle.pq_thrift.specs.Value.{Value, int16, int32, int64, binary, list, struct, Fields, no_fields, values_of}
use Rattle.pq_metadata.specs.Footer.{ChunkStatistics, ChunkMeta, Key, HasStatistics, HasColumnMeta, SpellsChunk, HasGroup, SpellsGroup, SpellsKey, HasKeys, SpellsTree, HasFooter, SpellsFooter}
use Rattle.pq_metadata.specs.Ids.{Each}
use Rattle.pq_tree.specs.Tree.{Schema}
use Rattle.pq_files.specs.FooterRecord.{ColumnMetaData, ColumnChunk, RowGroup, FileMetaData, chunk_meta, group_meta}
use Rattle.pq_files.specs.Packed.{IsKeyText}
use Rattle.pq_files.specs.Written.{at, at_some, structs, statistics_value, chunk_value, group_value, key_value, keys_value, elements_of, orders_value, footer_value}
use Rattle.pq_files.proofs.Unique.{Every, every}

-- each value of a list is of a kind
each_made : {A : Type 0} (con : A → Value) (xs : List A) → Each (λ v a. v ≡ con a) (values_of (map con xs)) xs
each_made con [] = tt
each_made con (x ∷ xs) = (refl, each_made con xs)

each_said : {A B : Type 0} (R : Value → B → Type 0) (f : A → Value) (g : A → B) → ((a : A) → R (f a) (g a)) → (xs : List A) → Each R (values_of (map f xs)) (map g xs)
each_said R f g h [] = tt
each_said R f g h (x ∷ xs) = (h x, each_said R f g h xs)

-- ---- columns

abbrev statistics_fields : Option ℤ → Option (List ℕ) → Option (List ℕ) → Fields
statistics_fields n a b = at_some 3 (option_map int64 n) (at_some 5 (option_map binary a) (at_some 6 (option_map binary b) no_fields))

statistics_say : (n : Option ℤ) (a b : Option (List ℕ)) → HasStatistics (statistics_fields n a b) (record { null_count = n; max_value = a; min_value = b })
statistics_say None None None = record { max = (None, refl); min = (None, refl); null_count = refl; distinct_count = (None, refl); max_value = refl; min_value = refl }
statistics_say None None (Some b) = record { max = (None, refl); min = (None, refl); null_count = refl; distinct_count = (None, refl); max_value = refl; min_value = refl }
statistics_say None (Some a) None = record { max = (None, refl); min = (None, refl); null_count = refl; distinct_count = (None, refl); max_value = refl; min_value = refl }
statistics_say None (Some a) (Some b) = record { max = (None, refl); min = (None, refl); null_count = refl; distinct_count = (None, refl); max_value = refl; min_value = refl }
statistics_say (Some n) None None = record { max = (None, refl); min = (None, refl); null_count = refl; distinct_count = (None, refl); max_value = refl; min_value = refl }
statistics_say (Some n) None (Some b) = record { max = (None, refl); min = (None, refl); null_count = refl; distinct_count = (None, refl); max_value = refl; min_value = refl }
statistics_say (Some n) (Some a) None = record { max = (None, refl); min = (None, refl); null_count = refl; distinct_count = (None, refl); max_value = refl; min_value = refl }
statistics_say (Some n) (Some a) (Some b) = record { max = (None, refl); min = (None, refl); null_count = refl; distinct_count = (None, refl); max_value = refl; min_value = refl }

-- the two fields that may be absent
abbrev column_fields : ColumnMetaData → Option ℤ → Option ChunkStatistics → Fields
column_fields c d s =
    at 1 (int32 c.type)
    (at 2 (list 5 (values_of (map int32 c.encodings)))
    (at 3 (list 8 (values_of (map binary c.path_in_schema)))
    (at 4 (int32 c.codec)
    (at 5 (int64 c.num_values)
    (at 6 (int64 c.total_uncompressed_size)
    (at 7 (int64 c.total_compressed_size)
    (at 9 (int64 c.data_page_offset) (at_some 11 (option_map int64 d) (at_some 12 (option_map statistics_value s) no_fields)))))))))

abbrev column_meta : ColumnMetaData → Option ℤ → Option ChunkStatistics → ChunkMeta
column_meta c d s =
    record {
      file_path = None;
      physical = c.type;
      codec = c.codec;
      num_values = c.num_values;
      size = c.total_compressed_size;
      data_page = c.data_page_offset;
      dictionary_page = d;
      statistics = s;
    }

column_says : (c : ColumnMetaData) (d : Option ℤ) (s : Option ChunkStatistics) → HasColumnMeta (column_fields c d s) (column_meta c d s)
column_says c None None = record { physical = refl; encodings = (_, each_made int32 c.encodings); path = (_, each_made binary c.path_in_schema); codec = refl; num_values = refl; uncompressed = (Some c.total_uncompressed_size, refl); size = refl; data_page = refl; dictionary_page = refl; statistics = refl }
column_says c (Some d) None = record { physical = refl; encodings = (_, each_made int32 c.encodings); path = (_, each_made binary c.path_in_schema); codec = refl; num_values = refl; uncompressed = (Some c.total_uncompressed_size, refl); size = refl; data_page = refl; dictionary_page = refl; statistics = refl }
column_says c None (Some s) = record { physical = refl; encodings = (_, each_made int32 c.encodings); path = (_, each_made binary c.path_in_schema); codec = refl; num_values = refl; uncompressed = (Some c.total_uncompressed_size, refl); size = refl; data_page = refl; dictionary_page = refl; statistics = statistics_say s.null_count s.max_value s.min_value }
column_says c (Some d) (Some s) = record { physical = refl; encodings = (_, each_made int32 c.encodings); path = (_, each_made binary c.path_in_schema); codec = refl; num_values = refl; uncompressed = (Some c.total_uncompressed_size, refl); size = refl; data_page = refl; dictionary_page = refl; statistics = statistics_say s.null_count s.max_value s.min_value }

chunk_says : (c : ColumnChunk) → SpellsChunk (chunk_value c) (chunk_meta c)
chunk_says c =
    record { file_path = refl; text = tt; offset = (Some c.file_offset, refl); metadata = _; has_metadata = refl; is = column_says c.meta_data c.meta_data.dictionary_page_offset c.meta_data.statistics; plain_keys = refl; plain_metadata = refl }

-- ---- groups

group_has : (g : RowGroup) (o : Option ℤ) →
    HasGroup
    (at 1 (structs (map chunk_value g.columns))
    (at 2 (int64 g.total_byte_size) (at 3 (int64 g.num_rows) (at 5 (int64 g.file_offset) (at 6 (int64 g.total_compressed_size) (at_some 7 (option_map int16 o) no_fields))))))
    (group_meta g)
group_has g None =
    record { kind = 12; columns = _; has_columns = refl; are = each_said SpellsChunk chunk_value chunk_meta chunk_says g.columns; num_rows = refl; total = (Some g.total_byte_size, refl); offset = (Some g.file_offset, refl); compressed = (Some g.total_compressed_size, refl); ordinal = (None, refl) }
group_has g (Some o) =
    record { kind = 12; columns = _; has_columns = refl; are = each_said SpellsChunk chunk_value chunk_meta chunk_says g.columns; num_rows = refl; total = (Some g.total_byte_size, refl); offset = (Some g.file_offset, refl); compressed = (Some g.total_compressed_size, refl); ordinal = (Some o, refl) }

group_says : (g : RowGroup) → SpellsGroup (group_value g) (group_meta g)
group_says g = group_has g g.ordinal

-- ---- keys

key_says : (k : Key) → IsKeyText k → SpellsKey (key_value k) k
key_says k h = value_says k.value h.1
  where
    value_says : (o : Option (List ℕ)) → IfSome o IsUtf8 → SpellsKey (struct (at 1 (binary k.key) (at_some 2 (option_map binary o) no_fields))) (record k { «value» = o })
    value_says None u = record { key = refl; key_text = h.0; «value» = refl; value_text = tt }
    value_says (Some s) u = record { key = refl; key_text = h.0; «value» = refl; value_text = u }

each_key : (ks : List Key) → Every IsKeyText ks → Each SpellsKey (values_of (map key_value ks)) ks
each_key [] h = tt
each_key (k ∷ ks) h = (key_says k h.0, each_key ks h.1)

have_keys : (ks : List Key) → All IsKeyText ks → HasKeys (keys_value ks) ks
have_keys [] h = refl
have_keys (k ∷ ks) h = each_key (k ∷ ks) (every IsKeyText (k ∷ ks) h)

-- ---- the footer

footer_has : (m : FileMetaData) (tree : Schema) (o : Option Value) → HasKeys o m.keys → SpellsTree (elements_of m.schema) tree →
    HasFooter
    (at 1 (int32 m.version)
    (at 2 (list 12 (elements_of m.schema)) (at 3 (int64 m.num_rows) (at 4 (structs (map group_value m.row_groups)) (at_some 5 o (at 6 (binary m.created_by) (at 7 (orders_value m.schema) no_fields)))))))
    (record { schema = tree; groups = map group_meta m.row_groups; keys = m.keys })
footer_has m tree None keys is_tree =
    record { version = (Some m.version, refl); kind = 12; elements = _; has_elements = refl; tree = is_tree; num_rows = (Some m.num_rows, refl); group_kind = 12; groups = _; has_groups = refl; are = each_said SpellsGroup group_value group_meta group_says m.row_groups; keys = keys; plain = refl }
footer_has m tree (Some v) keys is_tree =
    record { version = (Some m.version, refl); kind = 12; elements = _; has_elements = refl; tree = is_tree; num_rows = (Some m.num_rows, refl); group_kind = 12; groups = _; has_groups = refl; are = each_said SpellsGroup group_value group_meta group_says m.row_groups; keys = keys; plain = refl }

-- of a tree that its elements spell
pub footer_says : (m : FileMetaData) (tree : Schema) → All IsKeyText m.keys → SpellsTree (elements_of m.schema) tree → SpellsFooter (footer_value m) (record { schema = tree; groups = map group_meta m.row_groups; keys = m.keys })
footer_says m tree texts is_tree = footer_has m tree (keys_value m.keys) (have_keys m.keys texts) is_tree
