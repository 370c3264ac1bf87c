-- What is known of whole rewrites, one and several in a row (Parquet format, "File format"; Dremel paper, "Record assembly").
use Rattle.std.specs.Prelude.{◌≡◌, ◌≢◌, ◌≤◌, ℕ, true, false, List, length, map, flat_map, Some}
use Rattle.shredding.specs.Shape.{HasNoEmptyStruct, struct}
use Rattle.shredding.specs.Slot.{Slots}
use Rattle.columns_core.specs.Shapes.{shapes_of}
use Rattle.columns_core.specs.Tree.{FieldTrees}
use Rattle.pq_metadata.specs.Footer.{Footer, Key}
use Rattle.pq_tree.specs.Tree.{columns_of}
use Rattle.pq_files.specs.Carried.{GroupPages}
use Rattle.schema_codec.specs.Ranges.{max_length}
use Rattle.schema_key.specs.declared.infer.KeyRule.TheVariants.{Use}
use Rattle.schema_key.specs.Laws.{IsDecodable, IsInferredFrom}
use Rattle.schema_to_tree.specs.Table.{schema_of}
use Rattle.pq_headline.specs.Lists.{AllZip3}
use Rattle.pq_headline.specs.Rewrites.{Asked, Codec, Counts, HasFooterAt, Rewrites, all_pieces, keys_out}
use Rattle.pq_headline.specs.Rows.{HoldsRows, Seen}
use Rattle.pq_headline.specs.Served.{are_served_fields}

-- ---- the rows of a file

-- Each group of the file holds these rows of the fields.
pub record FileHolds (fs : FieldTrees) (bytes : List ℕ) (f : Footer) (rows : List (List Slots)) : Type 0 where
  pub place : ℕ
  pub has_footer : HasFooterAt bytes place f
  pub groups : List GroupPages
  pub hold : AllZip3 (HoldsRows fs bytes place (columns_of f.schema)) f.groups groups rows

-- the fields have a column each at least, and are of types that are served
pub record HaveColumns (fs : FieldTrees) : Type 0 where
  pub structs : HasNoEmptyStruct (struct false (shapes_of fs))
  pub served : are_served_fields fs ≡ true

-- A file has one footer, and its groups hold at most one list of rows each.
abbrev pub FileRowsAreUnique : Type 0
FileRowsAreUnique =
    (fs : FieldTrees) (bytes : List ℕ) (f g : Footer) (rows others : List (List Slots)) → HaveColumns fs → FileHolds fs bytes f rows → FileHolds fs bytes g others → (f ≡ g) × (rows ≡ others)

-- ---- an output, read as an input

-- the rows of each group of an output: those of the input's groups, cut
abbrev pub rows_out : Asked → List GroupPages → List (List Slots) → List (List Slots)
rows_out asked groups rows = map (λ p. p.rows) (all_pieces asked.chunk_size groups rows)

-- A file that was written has the tree of the fields and these keys, and each of its groups holds the rows of the piece that it was made of.
pub record WasWritten (fs : FieldTrees) (keys : List Key) (bytes : List ℕ) (rows : List (List Slots)) : Type 0 where
  pub footer : Footer
  pub tree : footer.schema ≡ schema_of fs
  pub keys_are : footer.keys ≡ keys
  pub holds : FileHolds fs bytes footer rows

abbrev pub OutputsHoldTheirRows : Type 0
OutputsHoldTheirRows =
    (codec : Codec) (asked : Asked) (input output : List ℕ) (counts : Counts) (shown : List (List Seen)) (r : Rewrites codec asked input output counts shown)
    → WasWritten r.schema.fields (keys_out codec r.schema r.footer.keys) output (rows_out asked r.converts.groups r.converts.rows)

-- ---- two rewrites in a row

-- the rows of all groups, one after another
abbrev pub all_rows : List (List Slots) → List Slots
all_rows groups = flat_map (λ rows. rows) groups

-- Where pieces have rows, the second rewrite takes the schema under the key, and the codec reads what it wrote, the second output has the schema and the rows of the first input,
-- in groups and pages of its own.
abbrev pub RewritesKeepRows : Type 0
RewritesKeepRows =
    (codec : Codec) (a b : Asked) (input middle output : List ℕ) (m n : Counts) (shown then : List (List Seen)) (r : Rewrites codec a input middle m shown) (q : Rewrites codec b middle output n then)
    → a.chunk_size ≢ Some 0 → b.rule ≡ Use → IsInferredFrom codec.bytes_of codec.reads r.schema → length (codec.bytes_of r.schema) ≤ max_length → IsDecodable (codec.bytes_of r.schema) → HaveColumns r.schema.fields
    → (q.schema ≡ r.schema) × (all_rows q.converts.rows ≡ all_rows r.converts.rows)
