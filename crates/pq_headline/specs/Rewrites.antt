-- What a rewrite makes of an input.
use Rattle.std.specs.Prelude.{◌≡◌, ℕ, List, [], ◌∷◌, ◌++◌, length, map, filter, sum_by, Option, Some, Bool, not}
use Rattle.std.specs.List.{AllZip}
use Rattle.shredding.specs.Cut.{cut}
use Rattle.shredding.specs.Slot.{Slots, Value}
use Rattle.columns_core.specs.Tree.{FieldTrees}
use Rattle.columns_core.specs.View.{SchemaTree, fields_of}
use Rattle.pq_metadata.specs.Footer.{Footer, Key, GroupMeta}
use Rattle.pq_metadata.specs.Frame.{IsFramed}
use Rattle.pq_metadata.specs.Metadata.{IsFooterText}
use Rattle.pq_tree.specs.Tree.{Schema, columns_of}
use Rattle.pq_tree.specs.declared.version.Version.{Version}
use Rattle.pq_files.specs.Carried.{GroupPages, column_in}
use Rattle.pq_files.specs.Layout.{OutGroup}
use Rattle.pq_files.specs.Packed.{Packed}
use Rattle.pq_files.specs.Room.{are_same}
use Rattle.pq_numbers.specs.Texts.{Begins}
use Rattle.schema_from_tree.specs.FromTree.{arrow_fields}
use Rattle.schema_key.specs.declared.infer.KeyRule.{KeyRule}
use Rattle.schema_key.specs.Inferred.{inferred}
use Rattle.schema_key.specs.Key.{schema_key, schema_entry}
use Rattle.schema_to_tree.specs.Table.{schema_of}
use Rattle.pq_headline.specs.Columns.{schema_columns}
use Rattle.pq_headline.specs.Lists.{AllZip3}
use Rattle.pq_headline.specs.Output.{Style, IsLaidGroup, all_chosen}
use Rattle.pq_headline.specs.Rows.{HoldsRows, AreAllEntries, Seen, seen_from}

-- ---- what is asked for

pub record Asked : Type 0 where
  pub version : Version
  pub style : Style
  pub chunk_size : Option ℕ
  pub delta : Bool
  pub rule : KeyRule
  pub byte_limit : ℕ
  pub pair_limit : ℕ

-- a codec of schemas
pub record Codec : Type 0 where
  pub bytes_of : SchemaTree → List ℕ
  pub reads : List ℕ → Option SchemaTree

-- what is told of an output
pub record Counts : Type 0 where
  pub groups : ℕ
  pub rows : ℕ
  pub data_pages : ℕ

-- ---- the footer and the schema

-- The bytes have a footer that says this, and it stands at the place.
pub record HasFooterAt (bytes : List ℕ) (place : ℕ) (f : Footer) : Type 0 where
  pub footer : List ℕ
  pub framed : IsFramed bytes place footer
  pub said : Begins IsFooterText footer f

-- the schema of a footer: the one under its key, where the rule uses it and it is there, else that of its tree
abbrev pub InfersSchema : Codec → KeyRule → Footer → SchemaTree → Type 0
InfersSchema codec rule f s = inferred codec.reads rule f.keys (fields_of (arrow_fields f.schema.fields)) ≡ Some s

-- the key values of an output: those of the input but for the schema's, in their order, and then that one
abbrev pub keys_out : Codec → SchemaTree → List Key → List Key
keys_out codec s keys = filter (λ k. not (are_same k.key schema_key)) keys ++ schema_entry (codec.bytes_of s) ∷ []

-- ---- pieces

-- rows of a group of the input that make a group of the output
pub record Piece : Type 0 where
  pub source : GroupPages
  pub rows : List Slots

abbrev pub piece_in : GroupPages → List Slots → Piece
piece_in g rows = record { source = g; rows = rows }

-- each group's rows are cut by themselves, and the pieces follow in order
abbrev pub all_pieces : Option ℕ → List GroupPages → List (List Slots) → List Piece
all_pieces n (g ∷ gs) (rows ∷ others) = map (piece_in g) (cut rows n) ++ all_pieces n gs others
all_pieces n _ _ = []

-- A piece as a group of the output, in pages as they are asked for. A dictionary has the entries of the source's.
pub record IsPieceOut (asked : Asked) (fs : FieldTrees) (tree : Schema) (p : Piece) (out : OutGroup) : Type 0 where
  pub entries : List (Option (List (Option Value)))
  pub of_source : AreAllEntries (schema_columns fs) (columns_of tree) (map column_in p.source.chunks) entries
  pub laid : IsLaidGroup asked.style p.rows (schema_columns fs) (columns_of (schema_of fs)) (all_chosen asked.delta (schema_columns fs) (columns_of (schema_of fs))) entries out

-- ---- groups

-- Some groups that the footer tells of, the rows that each holds, and the groups that they are written as.
pub record Converts (asked : Asked) (fs : FieldTrees) (tree : Schema) (bytes : List ℕ) (place : ℕ) (metas : List GroupMeta) (outs : List OutGroup) (shown : List (List Seen)) : Type 0 where
  pub groups : List GroupPages
  pub rows : List (List Slots)
  pub hold : AllZip3 (HoldsRows fs bytes place (columns_of tree)) metas groups rows
  pub pieces : AllZip (IsPieceOut asked fs tree) (all_pieces asked.chunk_size groups rows) outs
  -- what a view is shown: each piece as it goes by
  pub shows : shown ≡ map (λ p. seen_from 0 fs p.rows) (all_pieces asked.chunk_size groups rows)

-- the counts are those of the groups
pub record Counted (outs : List OutGroup) (counts : Counts) : Type 0 where
  pub groups : counts.groups ≡ length outs
  pub rows : counts.rows ≡ sum_by (λ g. g.rows) outs
  pub data_pages : counts.data_pages ≡ sum_by (λ g. sum_by (λ c. length c.pages) g.chunks) outs

-- ---- the whole

-- The input holds groups, each with exactly these rows of the schema that is inferred. The output is the packed file of that schema and
-- these rows, cut by the chunk size and laid out as asked. The counts are the output's, and what is shown are its pieces.
pub record Rewrites (codec : Codec) (asked : Asked) (input output : List ℕ) (counts : Counts) (shown : List (List Seen)) : Type 0 where
  pub place : ℕ
  pub footer : Footer
  pub has_footer : HasFooterAt input place footer
  pub schema : SchemaTree
  pub inferred : InfersSchema codec asked.rule footer schema
  pub outs : List OutGroup
  pub converts : Converts asked schema.fields footer.schema input place footer.groups outs shown
  pub packed : Packed output (schema_of schema.fields) (keys_out codec schema footer.keys) asked.version outs
  pub counted : Counted outs counts
