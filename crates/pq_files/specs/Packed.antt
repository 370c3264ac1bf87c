-- A file as it is written (Parquet format, "File format"): the pages one after another, and no other byte.
use Rattle.std.specs.Prelude.{◌≡◌, ℕ, suc, ◌+◌, ◌<◌, ◌≤◌, pos, List, [], ◌∷◌, ◌++◌, length, flat_map, All, map, Option, Some, None, IfSome, IsUtf8}
use Rattle.pq_numbers.specs.Bits.{IsWidth}
use Rattle.pq_numbers.specs.Texts.{number_of}
use Rattle.pq_thrift.specs.Value.{Value as Thrift}
use Rattle.pq_thrift.specs.Written.{IsWritten}
use Rattle.shredding.specs.Shred.{Triple}
use Rattle.shredding.specs.Slot.{Value}
use Rattle.pq_tree.specs.declared.version.Version.{Version}
use Rattle.pq_tree.specs.declared.version.Version.TheVariants.{V1, V2}
use Rattle.pq_metadata.specs.Footer.{Key, SpellsTree}
use Rattle.pq_metadata.specs.Frame.{magic}
use Rattle.pq_metadata.specs.Header.{Header, data_page, data_page_2}
use Rattle.pq_tree.specs.Tree.{Schema, Leaf, columns_of}
use Rattle.pq_files.specs.Carried.{Carried, Group, Column}
use Rattle.pq_files.specs.FooterRecord.{ColumnChunk, RowGroup}
use Rattle.pq_files.specs.Layout.{OutPage, OutChunk, OutGroup}
use Rattle.pq_files.specs.Page.{IsPageOf, rows_in}
use Rattle.pq_files.specs.Plain.{IsPlain}
use Rattle.pq_files.specs.WrittenSpelling.{IsWrittenSpelled}
use Rattle.pq_runs.specs.WrittenRuns.{WrittenRuns}
use Rattle.pq_files.specs.Written.{number_of_encoding, page_value_1, page_value_2, dictionary_value, encoding_in, Place, chunk_record, group_record, elements_of, footer_value, footer_record}

-- ---- pages

-- a section of runs as they are written, and none where the maximum is 0
pub record AreLevels (max : ℕ) (section levels : List ℕ) : Type 0 where
  pub width : ℕ
  pub is_width : IsWidth max width
  pub runs : WrittenRuns width section levels
  pub within : All (λ level. level ≤ max) levels
  pub none : max ≡ 0 → section ≡ []

abbrev pub data_header : OutPage → Header
data_header p = data_page (record { num_values = length p.triples; encoding = pos (number_of_encoding p.encoding); definition_encoding = Some (pos 3); repetition_encoding = Some (pos 3) })

abbrev pub data_header_2 : OutPage → ℕ → ℕ → Header
data_header_2 p definition repetition =
    data_page_2 (record { num_values = length p.triples; num_rows = rows_in p.triples; encoding = pos (number_of_encoding p.encoding); definition_length = definition; repetition_length = repetition })

-- the version's header for a page whose levels have these lengths, and the value that spells it in front of so many bytes
abbrev pub header_of : Version → OutPage → ℕ → ℕ → Header
header_of V1 p definition repetition = data_header p
header_of V2 p definition repetition = data_header_2 p definition repetition

abbrev pub header_value : Version → OutPage → ℕ → ℕ → ℕ → Thrift
header_value V1 p definition repetition size = page_value_1 p size
header_value V2 p definition repetition size = page_value_2 p size definition repetition

-- a page, which has a pair at least
pub record IsWrittenPage (version : Version) (l : Leaf) (entries : Option (List Value)) (p : OutPage) (text : List ℕ) : Type 0 where
  pub head : List ℕ
  pub body : List ℕ
  pub parts : text ≡ head ++ body
  pub definition : ℕ
  pub repetition : ℕ
  pub header : IsWritten head (header_value version p definition repetition (length body))
  pub page : IsPageOf AreLevels (λ e section vs. IsWrittenSpelled e l entries section vs) l (header_of version p definition repetition) body p.triples
  pub encoding : page.encoding ≡ p.encoding
  pub some : 0 < length p.triples

abbrev pub ArePages : Version → Leaf → Option (List Value) → List OutPage → List ℕ → Type 0
ArePages version l entries [] text = text ≡ []
ArePages version l entries (p ∷ ps) text = (first : List ℕ) × (others : List ℕ) × IsWrittenPage version l entries p first × ArePages version l entries ps others × (text ≡ first ++ others)

-- the dictionary page, where there are entries
pub record IsWrittenDictionary (l : Leaf) (entries : List Value) (text : List ℕ) : Type 0 where
  pub head : List ℕ
  pub body : List ℕ
  pub parts : text ≡ head ++ body
  pub header : IsWritten head (dictionary_value (length entries) (length body))
  pub plain : IsPlain l.physical body entries

abbrev pub HasDictionary : Leaf → Option (List Value) → List ℕ → Type 0
HasDictionary l None text = text ≡ []
HasDictionary l (Some entries) text = IsWrittenDictionary l entries text

-- ---- chunks

-- A chunk has a page at least, and all its data pages have one encoding.
pub record IsWrittenChunk (version : Version) (l : Leaf) (c : OutChunk) (w : Place) (text : List ℕ) : Type 0 where
  pub dictionary : List ℕ
  pub pages : List ℕ
  pub parts : text ≡ dictionary ++ pages
  pub has_dictionary : HasDictionary l c.entries dictionary
  pub are : ArePages version l c.entries c.pages pages
  pub behind : w.dictionary ≡ length dictionary
  pub size : w.size ≡ length text
  pub some : 0 < length c.pages
  pub encoding : All (λ p. p.encoding ≡ encoding_in c.pages) c.pages

-- The chunks of the leaves one after another, from a place on, and what the footer states of them.
abbrev pub AreChunks : Version → List Leaf → List OutChunk → ℕ → List ℕ → List ColumnChunk → Type 0
AreChunks version [] [] start text columns = (text ≡ []) × (columns ≡ [])
AreChunks version (l ∷ ls) (c ∷ cs) start text (column ∷ columns) =
    (first : List ℕ) × (others : List ℕ) × (w : Place) × (w.start ≡ start) × IsWrittenChunk version l c w first × (column ≡ chunk_record l c w)
    × AreChunks version ls cs (start + length first) others columns × (text ≡ first ++ others)
AreChunks version _ _ _ _ _ = ⊥

-- ---- groups, counted from a number on

abbrev pub triples_out : OutChunk → List Triple
triples_out c = flat_map (λ p. p.triples) c.pages

-- each column has the rows of the group
abbrev pub HasRows : OutGroup → Type 0
HasRows g = All (λ c. rows_in (triples_out c) ≡ g.rows) g.chunks

abbrev pub AreGroups : Version → List Leaf → List OutGroup → ℕ → ℕ → List ℕ → List RowGroup → Type 0
AreGroups version ls [] i start text row_groups = (text ≡ []) × (row_groups ≡ [])
AreGroups version ls (g ∷ gs) i start text (r ∷ row_groups) =
    (first : List ℕ) × (others : List ℕ) × (columns : List ColumnChunk) × HasRows g × AreChunks version ls g.chunks start first columns
    × (r ≡ group_record i columns g.rows start (length first)) × AreGroups version ls gs (suc i) (start + length first) others row_groups × (text ≡ first ++ others)
AreGroups version ls (g ∷ gs) i start text [] = ⊥

-- ---- the file

-- keys and values are UTF-8
abbrev pub IsKeyText : Key → Type 0
IsKeyText k = IsUtf8 k.key × IfSome k.value IsUtf8

-- The bytes are PAR1, the pages of each column of each group in order, the footer, its length and PAR1, and no other byte.
-- Each element that is written is that of its node: so no node has a field id.
pub record IsWrittenFile (bytes : List ℕ) (tree : Schema) (keys : List Key) (version : Version) (groups : List OutGroup) : Type 0 where
  pub pages : List ℕ
  pub footer : List ℕ
  pub size : List ℕ
  pub parts : bytes ≡ magic ++ (pages ++ (footer ++ (size ++ magic)))
  pub four : length size ≡ 4
  pub is_size : number_of size ≡ length footer
  pub row_groups : List RowGroup
  pub are : AreGroups version (columns_of tree) groups 0 4 pages row_groups
  pub is_footer : IsWritten footer (footer_value (footer_record version tree keys groups row_groups))
  pub is_tree : SpellsTree (elements_of tree) tree
  pub are_keys : All IsKeyText keys

-- ---- what a reader finds in it

abbrev pub column_out : OutChunk → Column
column_out c = record { entries = c.entries; triples = triples_out c }

abbrev pub group_out : OutGroup → Group
group_out g = record { rows = g.rows; columns = map column_out g.chunks }

-- Carried follows from the way it is written: see the law on packed files.
pub record Packed (bytes : List ℕ) (tree : Schema) (keys : List Key) (version : Version) (groups : List OutGroup) : Type 0 where
  pub written : IsWrittenFile bytes tree keys version groups
  pub carried : Carried bytes tree keys (map group_out groups)

-- a file that is written so is packed
abbrev pub WrittenFilesArePacked : Type 0
WrittenFilesArePacked =
    (bytes : List ℕ) (tree : Schema) (keys : List Key) (version : Version) (groups : List OutGroup) → IsWrittenFile bytes tree keys version groups → Packed bytes tree keys version groups
