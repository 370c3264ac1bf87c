-- The footer, as a Thrift struct (Parquet format, parquet.thrift: FileMetaData, RowGroup, ColumnChunk, ColumnMetaData, Statistics, KeyValue).
use Rattle.std.specs.Prelude.{◌≡◌, ℕ, ℤ, List, [], Option, Some, None, IfSome, IsUtf8}
use Rattle.pq_thrift.specs.Value.{Value, int16, int32, int64, binary, list, struct, Values, value, Fields}
pub use Rattle.pq_tree.specs.Footers.{ChunkStatistics, ChunkMeta, GroupMeta, Key, Footer}
use Rattle.pq_tree.specs.Tree.{Schema, count_trees, preorder_of}
use Rattle.pq_metadata.specs.Ids.{get, Holds, Each}
use Rattle.pq_metadata.specs.Elements.{SpellsNode, SpellsRoot}

-- The elements are the tree's, in preorder, behind the root.
pub record SpellsTree (vs : Values) (s : Schema) : Type 0 where
  pub first : Value
  pub others : Values
  pub parts : vs ≡ value first others
  pub root : SpellsRoot first s.name (count_trees s.fields)
  pub nodes : Each SpellsNode others (preorder_of s.fields)

-- each value of a list is of this kind
abbrev pub AreAll : {A : Type 0} → (A → Value) → Option Value → Type 0
AreAll con None = Unit {0}
AreAll {A = A} con (Some (list kind vs)) = (xs : List A) × Each (λ v x. v ≡ con x) vs xs
AreAll con (Some v) = ⊥

pub record HasStatistics (fs : Fields) (s : ChunkStatistics) : Type 0 where
  pub max : (x : Option (List ℕ)) × Holds binary 1 fs x
  pub min : (x : Option (List ℕ)) × Holds binary 2 fs x
  pub null_count : Holds int64 3 fs s.null_count
  pub distinct_count : (z : Option ℤ) × Holds int64 4 fs z
  pub max_value : Holds binary 5 fs s.max_value
  pub min_value : Holds binary 6 fs s.min_value

abbrev pub SaysStatistics : Option Value → Option ChunkStatistics → Type 0
SaysStatistics None s = s ≡ None
SaysStatistics (Some (struct fs)) (Some s) = HasStatistics fs s
SaysStatistics _ _ = ⊥

pub record HasColumnMeta (fs : Fields) (c : ChunkMeta) : Type 0 where
  pub physical : get 1 fs ≡ Some (int32 c.physical)
  pub encodings : AreAll int32 (get 2 fs)
  pub path : AreAll binary (get 3 fs)
  pub codec : get 4 fs ≡ Some (int32 c.codec)
  pub num_values : get 5 fs ≡ Some (int64 c.num_values)
  pub uncompressed : (z : Option ℤ) × Holds int64 6 fs z
  pub size : get 7 fs ≡ Some (int64 c.size)
  pub data_page : get 9 fs ≡ Some (int64 c.data_page)
  pub dictionary_page : Holds int64 11 fs c.dictionary_page
  pub statistics : SaysStatistics (get 12 fs) c.statistics

-- no part of the column is encrypted
pub record HasChunk (fs : Fields) (c : ChunkMeta) : Type 0 where
  pub file_path : Holds binary 1 fs c.file_path
  pub text : IfSome c.file_path IsUtf8
  pub offset : (z : Option ℤ) × Holds int64 2 fs z
  pub metadata : Fields
  pub has_metadata : get 3 fs ≡ Some (struct metadata)
  pub is : HasColumnMeta metadata c
  pub plain_keys : get 8 fs ≡ None
  pub plain_metadata : get 9 fs ≡ None

abbrev pub SpellsChunk : Value → ChunkMeta → Type 0
SpellsChunk (struct fs) c = HasChunk fs c
SpellsChunk v c = ⊥

pub record HasGroup (fs : Fields) (g : GroupMeta) : Type 0 where
  pub kind : ℕ
  pub columns : Values
  pub has_columns : get 1 fs ≡ Some (list kind columns)
  pub are : Each SpellsChunk columns g.chunks
  pub num_rows : get 3 fs ≡ Some (int64 g.num_rows)
  pub total : (z : Option ℤ) × Holds int64 2 fs z
  pub offset : (z : Option ℤ) × Holds int64 5 fs z
  pub compressed : (z : Option ℤ) × Holds int64 6 fs z
  pub ordinal : (z : Option ℤ) × Holds int16 7 fs z

abbrev pub SpellsGroup : Value → GroupMeta → Type 0
SpellsGroup (struct fs) g = HasGroup fs g
SpellsGroup v g = ⊥

pub record HasKey (fs : Fields) (k : Key) : Type 0 where
  pub key : get 1 fs ≡ Some (binary k.key)
  pub key_text : IsUtf8 k.key
  pub «value» : Holds binary 2 fs k.value
  pub value_text : IfSome k.value IsUtf8

abbrev pub SpellsKey : Value → Key → Type 0
SpellsKey (struct fs) k = HasKey fs k
SpellsKey v k = ⊥

-- no list counts as one without elements
abbrev pub HasKeys : Option Value → List Key → Type 0
HasKeys None ks = ks ≡ []
HasKeys (Some (list kind vs)) ks = Each SpellsKey vs ks
HasKeys (Some v) ks = ⊥

pub record HasFooter (fs : Fields) (f : Footer) : Type 0 where
  pub version : (z : Option ℤ) × Holds int32 1 fs z
  pub kind : ℕ
  pub elements : Values
  pub has_elements : get 2 fs ≡ Some (list kind elements)
  pub tree : SpellsTree elements f.schema
  pub num_rows : (z : Option ℤ) × Holds int64 3 fs z
  pub group_kind : ℕ
  pub groups : Values
  pub has_groups : get 4 fs ≡ Some (list group_kind groups)
  pub are : Each SpellsGroup groups f.groups
  pub keys : HasKeys (get 5 fs) f.keys
  -- the file is not encrypted
  pub plain : get 8 fs ≡ None

abbrev pub SpellsFooter : Value → Footer → Type 0
SpellsFooter (struct fs) f = HasFooter fs f
SpellsFooter v f = ⊥
