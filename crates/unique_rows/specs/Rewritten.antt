-- What a rewrite makes of a file that was written for a schema and rows.
use Rattle.std.specs.Prelude.{◌≡◌, ℕ, List, [], ◌∷◌, All, map, flat_map, false, Some}
use Rattle.std.specs.List.{AllZip}
use Rattle.shredding.specs.Cut.{cut}
use Rattle.shredding.specs.Slot.{Slots}
use Rattle.columns_core.specs.Tree.{FieldTrees}
use Rattle.columns_core.specs.View.{SchemaTree}
use Rattle.pq_files.specs.Layout.{OutGroup}
use Rattle.pq_files.specs.Packed.{Packed}
use Rattle.pq_headline.specs.Columns.{is_dictionary, schema_columns}
use Rattle.pq_headline.specs.Output.{Style}
use Rattle.pq_headline.specs.Rewrites.{Asked, Codec, Counted, Counts, Rewrites}
use Rattle.pq_headline.specs.Rows.{Seen, seen_from}
use Rattle.pq_tree.specs.declared.version.Version.{Version}
use Rattle.schema_key.specs.Inferred.{inferred}
use Rattle.schema_key.specs.Key.{schema_entry}
use Rattle.schema_to_tree.specs.Table.{schema_of}
use Rattle.unique_rows.specs.Held.{AreRowsIn, HasWays}

-- no column is of a dictionary type
abbrev pub HasNoDictionary : FieldTrees → Type 0
HasNoDictionary fs = All (λ c. is_dictionary c.data_type ≡ false) (schema_columns fs)

-- The file of a schema, which its key tells, and of these groups of rows.
pub record IsFileFor (s : Style) (version : Version) (bytes_of : SchemaTree → List ℕ) (schema : SchemaTree) (rowss : List (List Slots)) (bytes : List ℕ) : Type 0 where
  pub outs : List OutGroup
  pub packed : Packed bytes (schema_of schema.fields) (schema_entry (bytes_of schema) ∷ []) version outs
  pub are : AllZip (AreRowsIn s schema.fields) rowss outs

-- the schema is told by its key, whatever the tree is
abbrev pub IsTold : Codec → Asked → SchemaTree → Type 0
IsTold codec asked s = (columns : FieldTrees) → inferred codec.reads asked.rule (schema_entry (codec.bytes_of s) ∷ []) columns ≡ Some s

-- all groups, each cut by itself
abbrev pub all_cut : Asked → List (List Slots) → List (List Slots)
all_cut asked rowss = flat_map (λ rows. cut rows asked.chunk_size) rowss

-- The file of the same schema and of the same rows, cut; the counts are its own, and its pieces were shown.
pub record IsRewritten (codec : Codec) (asked : Asked) (s : SchemaTree) (rowss : List (List Slots)) (output : List ℕ) (counts : Counts) (shown : List (List Seen)) : Type 0 where
  pub file : IsFileFor asked.style asked.version codec.bytes_of s (all_cut asked rowss) output
  pub counted : Counted file.outs counts
  pub shows : shown ≡ map (seen_from 0 s.fields) (all_cut asked rowss)

abbrev pub FilesAreRewritten : Type 0
FilesAreRewritten =
    (style : Style) (version : Version) (codec : Codec) (asked : Asked) (s : SchemaTree) (rowss : List (List Slots)) (input output : List ℕ) (counts : Counts) (shown : List (List Seen))
    → HasWays s.fields → HasNoDictionary s.fields → IsTold codec asked s → IsFileFor style version codec.bytes_of s rowss input → Rewrites codec asked input output counts shown
    → IsRewritten codec asked s rowss output counts shown
