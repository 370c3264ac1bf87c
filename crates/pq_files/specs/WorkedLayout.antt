-- Worked examples of layout, of statistics and of what can be read of a cut section, and a near miss.
use Rattle.std.specs.Prelude.{ℕ, pos, false, Option, Some, None, List, [], ◌∷◌, ◌++◌, map}
use Rattle.pq_thrift.specs.Grammar.{Spells}
use Rattle.shredding.specs.Shape.{text, signed}
use Rattle.shredding.specs.Shred.{Triple}
use Rattle.shredding.specs.Slot.{Value, number, bytes}
use Rattle.pq_tree.specs.declared.version.Version.TheVariants.{V1}
use Rattle.pq_metadata.specs.Header.{Header, data_page}
use Rattle.pq_tree.specs.Physical.{int32, byte_array}
use Rattle.pq_tree.specs.Tree.{Leaf}
use Rattle.pq_tree.specs.Types.{required}
use Rattle.pq_files.specs.Chunk.{Chunk, IsChunk}
use Rattle.pq_files.specs.FirstFile.{way, rows}
use Rattle.pq_files.specs.Layout.{Options, Target, IsLaid}
use Rattle.pq_files.specs.Page.{delta}
use Rattle.pq_files.specs.Prefixes.{BeginsValues}
use Rattle.pq_files.specs.Statistics.{Statistics, Bounds, AreStatistics}
use Rattle.pq_files.specs.Written.{statistics_of, statistics_value, page_value_2}
use Rattle.pq_files.specs.WrittenExample.{out_page, out_chunk}

-- ---- layout: the first file's rows, without statistics

abbrev pub options : Options
options = record { version = V1; page_limit = 1048576; chunk_size = None; statistics = false; delta = false }

abbrev pub target : Target
target = record { way = way; type = signed 32; physical = int32; flat = false; entries = None }

-- ---- statistics: the texts ab and a, and a null between them

abbrev pub pair : ℕ → Option Value → Triple
pair d v = record { repetition = 0; definition = d; value = v }

abbrev pub ab : Value
ab = bytes (97 ∷ 98 ∷ [])

abbrev pub a : Value
a = bytes (97 ∷ [])

abbrev pub texts : List Triple
texts = pair 1 (Some ab) ∷ pair 0 None ∷ pair 1 (Some a) ∷ []

abbrev pub bounds : List ℕ → Option Bounds
bounds greatest = Some (record { least = 97 ∷ []; greatest = greatest })

abbrev pub IsOfTexts : Statistics → Type 0
IsOfTexts s = AreStatistics text byte_array s texts (ab ∷ a ∷ [])

-- ---- a delta section of eight numbers without its last byte holds five of them

abbrev pub flat_leaf : Leaf
flat_leaf = record { path = record { name = 97 ∷ []; repetition = required; id = None; converted = None; logical = None } ∷ []; physical = int32 }

abbrev pub cut_deltas : List ℕ
cut_deltas = 128 ∷ 1 ∷ 4 ∷ 8 ∷ 14 ∷ 3 ∷ 2 ∷ 0 ∷ 0 ∷ 0 ∷ 192 ∷ []

-- ---- the Thrift values of statistics and of a page's header, as bytes

abbrev pub of_texts : Statistics
of_texts = record { null_count = 1; bounds = bounds (97 ∷ 98 ∷ []) }

-- the ids 3, 5 and 6
abbrev pub statistics_text : List ℕ
statistics_text = 54 ∷ 2 ∷ 40 ∷ 2 ∷ 97 ∷ 98 ∷ 24 ∷ 1 ∷ 97 ∷ 0 ∷ []

-- the first file's page in version 2: the ids 1, 2, 3 and 8, and inside it 1 to 7
abbrev pub header_text : List ℕ
header_text =
    21 ∷ 6 ∷ 21 ∷ 26 ∷ 21 ∷ 26 ∷ 92 ∷ 21 ∷ 10 ∷ 21 ∷ 6 ∷ 21 ∷ 8 ∷ 21 ∷ 0 ∷ 21 ∷ 6 ∷ 21 ∷ 4 ∷ 18 ∷
    0 ∷ 0 ∷ []

-- ---- a chunk of two numbers, both 7: a dictionary page of one entry, and a page of indices of no bits

abbrev pub entries_text : List ℕ
entries_text = 21 ∷ 4 ∷ 21 ∷ 8 ∷ 21 ∷ 8 ∷ 76 ∷ 21 ∷ 2 ∷ 21 ∷ 0 ∷ 0 ∷ 0 ∷ 7 ∷ 0 ∷ 0 ∷ 0 ∷ []

abbrev pub indices_text : List ℕ
indices_text = 21 ∷ 0 ∷ 21 ∷ 2 ∷ 21 ∷ 2 ∷ 44 ∷ 21 ∷ 4 ∷ 21 ∷ 16 ∷ 21 ∷ 6 ∷ 21 ∷ 6 ∷ 0 ∷ 0 ∷ 0 ∷ []

abbrev pub seven : Value
seven = number (pos 7)

abbrev pub indices_header : Header
indices_header = data_page (record { num_values = 2; encoding = pos 8; definition_encoding = Some (pos 3); repetition_encoding = Some (pos 3) })

abbrev pub indexed : Chunk
indexed = record { entries = Some (seven ∷ []); pages = record { header = indices_header; triples = pair 0 (Some seven) ∷ pair 0 (Some seven) ∷ [] } ∷ [] }

pub record AreLaid : Type 0 where
  pub laid : IsLaid options target rows out_chunk
  pub counted : IsOfTexts (record { null_count = 1; bounds = bounds (97 ∷ 98 ∷ []) })
  pub greatest_wrong : ¬ IsOfTexts (record { null_count = 1; bounds = bounds (97 ∷ []) })
  pub nulls_wrong : ¬ IsOfTexts (record { null_count = 0; bounds = bounds (97 ∷ 98 ∷ []) })
  pub statistics_are : Spells statistics_text (statistics_value (statistics_of of_texts))
  pub header_is : Spells header_text (page_value_2 out_page 13 3 2)
  pub indexed_is : IsChunk flat_leaf 2 (entries_text ++ indices_text) indexed
  pub five_of_eight : BeginsValues delta flat_leaf None 8 cut_deltas (map (λ n. number (pos n)) (7 ∷ 5 ∷ 3 ∷ 1 ∷ 2 ∷ []))
