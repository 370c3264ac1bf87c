-- A data page of a flat required column around a body that is spelled (Parquet format, "Data Pages"; parquet.thrift: Statistics, DataPageHeader).
use Rattle.std.specs.Prelude.{◌≡◌, ℕ, pos, ◌-◌, ◌^◌, max, List, [], ◌∷◌, Bool, true, false, Option, Some, option_map}
use Rattle.std.specs.Int.{w32, w64, cast_unsigned, to_le_bytes}
use Rattle.pq_pages.specs.DataPages.{DataPageValue, number_in}
use Rattle.pq_tree.specs.Footers.{ChunkStatistics}
use Rattle.pq_tree.specs.Views.{bytes_view, statistics_view}
use Rattle.pq_tree.specs.declared.types.DataPageHeader.{DataPageHeader}
use Rattle.pq_tree.specs.declared.types.DataPageHeader.TheVariants.{V1, V2}
use Rattle.pq_tree.specs.declared.types.Encoding.{Encoding}
use Rattle.pq_tree.specs.declared.types.ParquetStatistics.{ParquetStatistics}
use Rattle.pq_tree.specs.declared.types.ParquetStatistics.TheVariants as S
use Rattle.pq_tree.specs.declared.types.PrimitiveType.{PrimitiveType}
use Rattle.pq_tree.specs.declared.version.Version.{Version}
use Rattle.pq_tree.specs.declared.version.Version.TheVariants as Ver

-- ---- statistics: bounds are stored plain, byte strings without their length

abbrev pub truth_text : Bool → List ℕ
truth_text true = 1 ∷ []
truth_text false = 0 ∷ []

abbrev pub stated : ParquetStatistics → ChunkStatistics
stated (S.Boolean s) = record { null_count = s.null_count; max_value = option_map truth_text s.max_value; min_value = option_map truth_text s.min_value }
stated (S.Int32 s) =
    record { null_count = s.null_count; max_value = option_map (λ x. to_le_bytes w32 (cast_unsigned w32 x)) s.max_value; min_value = option_map (λ x. to_le_bytes w32 (cast_unsigned w32 x)) s.min_value }
stated (S.Int64 s) =
    record { null_count = s.null_count; max_value = option_map (λ x. to_le_bytes w64 (cast_unsigned w64 x)) s.max_value; min_value = option_map (λ x. to_le_bytes w64 (cast_unsigned w64 x)) s.min_value }
stated (S.Binary s) = record { null_count = s.null_count; max_value = option_map bytes_view s.max_value; min_value = option_map bytes_view s.min_value }
stated (S.FixedLen s) = record { null_count = s.null_count; max_value = option_map bytes_view s.max_value; min_value = option_map bytes_view s.min_value }

-- ---- the page

-- what its header counts
pub record Counts : Type 0 where
  pub values : ℕ
  pub rows : ℕ
  pub nulls : ℕ
  -- the bytes of its levels
  pub repetition : ℕ
  pub definition : ℕ

-- the greatest of these and of the body's size
abbrev pub greatest : Counts → ℕ → ℕ
greatest c size = max (max (max c.values c.rows) (max c.nulls c.repetition)) (max c.definition size)

abbrev pub max_number : ℕ
max_number = 2 ^ 31 - 1

-- The header states the counts, in the fields that the version has. Levels are spelled as runs (encoding 3), and the body is not compressed.
abbrev pub HasHeader : Version → Counts → Encoding → Option ChunkStatistics → DataPageHeader → Type 0
HasHeader Ver.V1 c e statistics (V1 h) =
    (h.num_values ≡ pos c.values) × (h.encoding ≡ number_in e) × (h.definition_level_encoding ≡ Some (pos 3)) × (h.repetition_level_encoding ≡ Some (pos 3)) × (option_map statistics_view h.statistics ≡ statistics)
HasHeader Ver.V2 c e statistics (V2 h) =
    (h.num_values ≡ pos c.values) × (h.num_nulls ≡ Some (pos c.nulls)) × (h.num_rows ≡ pos c.rows) × (h.encoding ≡ number_in e) × (h.definition_levels_byte_length ≡ pos c.definition)
    × (h.repetition_levels_byte_length ≡ pos c.repetition) × (h.is_compressed ≡ Some false) × (option_map statistics_view h.statistics ≡ statistics)
HasHeader _ c e statistics h = ⊥

-- the page of this body and type, whose column has no levels
pub record IsPlainPage (version : Version) (c : Counts) (e : Encoding) (statistics : Option ChunkStatistics) (body : List ℕ) (type : PrimitiveType) (page : DataPageValue) : Type 0 where
  pub header : HasHeader version c e statistics page.header
  pub body_is : page.buffer ≡ body
  pub type_is : page.descriptor.primitive_type ≡ type
  pub defines : page.descriptor.max_def_level ≡ pos 0
  pub repeats : page.descriptor.max_rep_level ≡ pos 0
