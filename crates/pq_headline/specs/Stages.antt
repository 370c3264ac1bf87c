-- Why an input is refused, stage by stage. What is refused at a stage has passed those before it.
-- The stages are: 1 the options, 2 how many bytes there are, 3 the frame and the footer, 4 how many pairs the footer claims, 5 where its chunks lie, 6 the schema, 7 pages and
-- the rows that they hold, 8 how large the output is and whether it holds each decimal. Of the first two a caller knows before any byte is looked at.
use Rattle.std.specs.Prelude.{◌≡◌, ◌≢◌, ◌⊎◌, ℕ, ◌<◌, ◌≤◌, ℤ, pos, negsuc, List, [], ◌∷◌, ◌++◌, length, map, filter, sum_by, false, not, nat_eq, All, Option, Some, None, true}
use Rattle.std.specs.List.{AllZip}
use Rattle.shredding.specs.Slot.{Slots}
use Rattle.columns_base.specs.declared.error.Error.{Error}
use Rattle.columns_base.specs.declared.error.Error.TheVariants.{ReadFault, WriteFault, InputLimit, OutOfSpec, NotYetImplemented, InvalidArgumentError, Overflow, Memory}
use Rattle.columns_base.specs.declared.error.Limit.TheVariants.{Bytes, Pairs}
use Rattle.columns_base.specs.declared.error.S.TheVariants as S
use Rattle.columns_base.specs.declared.error.N.TheVariants as N
use Rattle.columns_base.specs.declared.error.A.TheVariants as A
use Rattle.columns_base.specs.declared.error.V.TheVariants as V
use Rattle.columns_core.specs.Measures.{field_leaves}
use Rattle.columns_core.specs.Tree.{FieldTree, FieldTrees, no_fields, more_fields}
use Rattle.columns_core.specs.View.{SchemaTree, fields_of}
use Rattle.pq_metadata.specs.Footer.{Footer, GroupMeta}
use Rattle.pq_tree.specs.Tree.{Tree, Trees, no_trees, tree, Schema, Leaf, leaves, columns_of, schema_nesting}
use Rattle.pq_files.specs.Reasons.{S1, S2, N1, N2, N3, N7, AnyOf, AnyZip}
use Rattle.schema_from_tree.specs.FromTree.{arrow_fields}
use Rattle.schema_fit.specs.Fits.{agrees_with}
use Rattle.schema_key.specs.declared.infer.KeyRule.{KeyRule}
use Rattle.schema_key.specs.Inferred.{inferred, gathered, counting}
use Rattle.schema_to_tree.specs.Conditions.{AreWritten, RefusesSchema}
use Rattle.schema_map.specs.Rows.{HasRows as FieldHasRows}
use Rattle.pq_headline.specs.Lists.{AllZip3}
use Rattle.pq_headline.specs.Opened.{GroupIsPlaced, AreOpened}
use Rattle.pq_headline.specs.FieldReasons.{Refuses as RefusesField}
use Rattle.pq_headline.specs.Openings.{Opening, AreAlike, CanBeWritten}
use Rattle.pq_headline.specs.Output.{HasWideDecimal, PieceIsTooLarge}
use Rattle.pq_headline.specs.Rewrites.{Asked, Codec, HasFooterAt, InfersSchema, Piece, all_pieces, IsPieceOut, keys_out}
use Rattle.pq_headline.specs.Rows.{HoldsRows, AreAllEntries}
use Rattle.pq_headline.specs.Served.{are_served_fields}
use Rattle.pq_headline.specs.Columns.{schema_columns}
use Rattle.pq_files.specs.Carried.{GroupPages, column_in}
use Rattle.pq_files.specs.Layout.{OutGroup}
use Rattle.pq_files.specs.Room.{max_size, footer_room, planned_footer}
use Rattle.schema_to_tree.specs.Table.{schema_of}
use Rattle.write_counts.specs.Passing.{GroupPasses}
use Rattle.shredding.specs.Slot.{Value}

-- ---- stage 4: the pairs that the footer claims

abbrev pub claimed : ℤ → ℕ
claimed (pos n) = n
claimed (negsuc n) = 0

abbrev pub pairs_claimed : Footer → ℕ
pairs_claimed f = sum_by (λ g. sum_by (λ m. claimed m.num_values) g.chunks) f.groups

-- ---- stage 6: the schema

-- The leaves of the file are those of the fields, one field after another.
abbrev pub AreAllAlike : FieldTrees → List Leaf → Type 0
AreAllAlike no_fields ls = ls ≡ []
AreAllAlike (more_fields f fs) ls = (mine : List Leaf) × (others : List Leaf) × (ls ≡ mine ++ others) × AreAlike f mine × AreAllAlike fs others

abbrev pub list_fields : FieldTrees → List FieldTree
list_fields no_fields = []
list_fields (more_fields f fs) = f ∷ list_fields fs

abbrev pub list_trees : Trees → List Tree
list_trees no_trees = []
list_trees (tree t ts) = t ∷ list_trees ts

-- with a column at least
abbrev pub fields_with_columns : FieldTrees → List FieldTree
fields_with_columns fs = filter (λ f. not (nat_eq (field_leaves f) 0)) (list_fields fs)

abbrev pub trees_with_columns : Trees → List Tree
trees_with_columns ts = filter (λ t. not (nat_eq (length (leaves t)) 0)) (list_trees ts)

-- the fields with columns are not as many as the trees with columns, or one of them misfits its tree
abbrev pub Misfits : FieldTrees → Trees → Type 0
Misfits fs ts =
    (length (fields_with_columns fs) ≢ length (trees_with_columns ts))
    ⊎ AnyZip (λ f t. agrees_with f t ≡ false) (fields_with_columns fs) (trees_with_columns ts)

-- each leaf of each field is of a type whose values pages have at its nesting
abbrev pub HaveRows : FieldTrees → Type 0
HaveRows no_fields = Unit {0}
HaveRows (more_fields f fs) = FieldHasRows f × HaveRows fs

-- No condition of the stage holds of the schema.
pub record SchemaFits (fs : FieldTrees) (f : Footer) : Type 0 where
  pub some : fs ≢ no_fields
  pub agree : AllZip (λ g t. agrees_with g t ≡ true) (fields_with_columns fs) (trees_with_columns f.schema.fields)
  pub alike : AreAllAlike fs (columns_of f.schema)
  pub written : AreWritten fs
  pub rows : HaveRows fs
  pub held : CanBeWritten fs
  pub served : are_served_fields fs ≡ true

-- a text under the key counts
abbrev pub HasKey : KeyRule → Footer → Type 0
HasKey rule f = counting rule (gathered f.keys) ≢ None

abbrev pub RefusesSchema6 : Codec → KeyRule → Footer → Error → Type 0
RefusesSchema6 codec rule f (InvalidArgumentError A.A2) = inferred codec.reads rule f.keys (fields_of (arrow_fields f.schema.fields)) ≡ None
RefusesSchema6 codec rule f (InvalidArgumentError A.A3) = (s : SchemaTree) × InfersSchema codec rule f s × (s.fields ≡ no_fields)
RefusesSchema6 codec rule f (OutOfSpec S.S8) = (s : SchemaTree) × InfersSchema codec rule f s × HasKey rule f × Misfits s.fields f.schema.fields
RefusesSchema6 codec rule f (NotYetImplemented N.N6) = (s : SchemaTree) × InfersSchema codec rule f s × (¬ HasKey rule f) × Misfits s.fields f.schema.fields
RefusesSchema6 codec rule f (NotYetImplemented N.N5) = (s : SchemaTree) × InfersSchema codec rule f s × (RefusesSchema s.fields (NotYetImplemented N.N5) ⊎ AnyOf (λ g. ¬ FieldHasRows g) (list_fields s.fields) ⊎ (are_served_fields s.fields ≡ false))
RefusesSchema6 codec rule f (NotYetImplemented N.N7) = (s : SchemaTree) × InfersSchema codec rule f s × RefusesSchema s.fields (NotYetImplemented N.N7)
RefusesSchema6 codec rule f (InvalidArgumentError A.A4) = (s : SchemaTree) × InfersSchema codec rule f s × RefusesSchema s.fields (InvalidArgumentError A.A4)
RefusesSchema6 codec rule f (InvalidArgumentError A.A5) = (s : SchemaTree) × InfersSchema codec rule f s × RefusesSchema s.fields (InvalidArgumentError A.A5)
RefusesSchema6 codec rule f (InvalidArgumentError A.A6) = (s : SchemaTree) × InfersSchema codec rule f s × RefusesSchema s.fields (InvalidArgumentError A.A6)
RefusesSchema6 codec rule f e = ⊥

-- ---- stage 7: the fields of a group

-- a field of this group is refused so
abbrev pub SomeFieldIs : List ℕ → ℕ → Asked → FieldTrees → List Leaf → Error → GroupMeta → Type 0
SomeFieldIs bytes place asked fs ls e m = (rows : ℕ) × (m.num_rows ≡ pos rows) × (os : List Opening) × AreOpened bytes place rows asked.chunk_size fs ls m.chunks os × AnyOf (λ o. RefusesField o e) os

-- ---- all of them

-- the input passes the first three stages: it has a footer, whose tree nests no deeper than the limit
pub record Passes3 (bytes : List ℕ) (place : ℕ) (f : Footer) : Type 0 where
  pub footer : HasFooterAt bytes place f
  pub shallow : schema_nesting f.schema ≤ 128

pub record Passes4 (asked : Asked) (bytes : List ℕ) (place : ℕ) (f : Footer) : Type 0 where
  pub third : Passes3 bytes place f
  pub few : pairs_claimed f ≤ asked.pair_limit

pub record Passes5 (asked : Asked) (bytes : List ℕ) (place : ℕ) (f : Footer) : Type 0 where
  pub fourth : Passes4 asked bytes place f
  pub placed : All (GroupIsPlaced place (columns_of f.schema)) f.groups

pub record Passes6 (codec : Codec) (asked : Asked) (bytes : List ℕ) (place : ℕ) (f : Footer) (s : SchemaTree) : Type 0 where
  pub fifth : Passes5 asked bytes place f
  pub infers : InfersSchema codec asked.rule f s
  pub fits : SchemaFits s.fields f

abbrev pub At5 : Asked → (ℕ → Footer → Type 0) → List ℕ → Type 0
At5 asked R bytes = (place : ℕ) × (f : Footer) × Passes4 asked bytes place f × R place f

abbrev pub At6 : Codec → Asked → Error → List ℕ → Type 0
At6 codec asked e bytes = (place : ℕ) × (f : Footer) × Passes5 asked bytes place f × RefusesSchema6 codec asked.rule f e

abbrev pub At7 : Codec → Asked → Error → List ℕ → Type 0
At7 codec asked e bytes = (place : ℕ) × (f : Footer) × (s : SchemaTree) × Passes6 codec asked bytes place f s × AnyOf (SomeFieldIs bytes place asked s.fields (columns_of f.schema) e) f.groups

-- and each group holds rows
pub record Passes7 (codec : Codec) (asked : Asked) (bytes : List ℕ) (place : ℕ) (f : Footer) (s : SchemaTree) : Type 0 where
  pub sixth : Passes6 codec asked bytes place f s
  pub groups : List GroupPages
  pub rows : List (List Slots)
  pub hold : AllZip3 (HoldsRows s.fields bytes place (columns_of f.schema)) f.groups groups rows

-- of the pieces of the output
abbrev pub At8 : Codec → Asked → (Footer → SchemaTree → List Piece → Type 0) → List ℕ → Type 0
At8 codec asked R bytes = (place : ℕ) × (f : Footer) × (s : SchemaTree) × (p : Passes7 codec asked bytes place f s) × R f s (all_pieces asked.chunk_size p.groups p.rows)

-- a decimal of a piece is wider than what it is written as
abbrev pub A7At : Footer → SchemaTree → List Piece → Type 0
A7At f s pieces = AnyOf (λ p. HasWideDecimal s.fields p.rows) pieces

-- Behind the groups of the pieces before it a piece's group passes the counts of a footer: by the rows of all, by the pairs of one of its columns, or by the bytes of the
-- output up to one of its pages.
pub record CountsPass (asked : Asked) (fs : FieldTrees) (tree : Schema) (pieces : List Piece) : Type 0 where
  pub first : List Piece
  pub piece : Piece
  pub others : List Piece
  pub parts : pieces ≡ first ++ piece ∷ others
  pub outs : List OutGroup
  pub are_out : AllZip (IsPieceOut asked fs tree) first outs
  pub out : OutGroup
  pub is_out : IsPieceOut asked fs tree piece out
  pub passes : GroupPasses asked.version (columns_of (schema_of fs)) outs out

-- a page's room, the codec's length or the footer's room passes the format's sizes, or a piece's group its counts
abbrev pub V3At : Codec → Asked → Footer → SchemaTree → List Piece → Type 0
V3At codec asked f s pieces =
    AnyOf (λ p. (ds : List (Option (List (Option Value)))) × AreAllEntries (schema_columns s.fields) (columns_of f.schema) (map column_in p.source.chunks) ds × PieceIsTooLarge asked.style s.fields p.rows ds) pieces
    ⊎ (max_size < length (codec.bytes_of s))
    ⊎ ((outs : List OutGroup) × AllZip (IsPieceOut asked s.fields f.schema) pieces outs × (max_size < footer_room (planned_footer (schema_of s.fields) (keys_out codec s f.keys) outs)))
    ⊎ CountsPass asked s.fields f.schema pieces

-- Each refusal that the input's bytes decide, by its condition. It stands at its stage: the input passes those before.
abbrev pub Refuses : Codec → Asked → List ℕ → Error → Type 0
Refuses codec asked bytes ReadFault = ⊥
Refuses codec asked bytes WriteFault = ⊥
Refuses codec asked bytes (InputLimit Bytes) = ⊥
Refuses codec asked bytes (InputLimit Pairs) = (place : ℕ) × (f : Footer) × Passes3 bytes place f × (asked.pair_limit < pairs_claimed f)
Refuses codec asked bytes (OutOfSpec S.S1) = S1 bytes
Refuses codec asked bytes (OutOfSpec S.S2) = At5 asked S2 bytes
Refuses codec asked bytes (OutOfSpec S.S8) = At6 codec asked (OutOfSpec S.S8) bytes
Refuses codec asked bytes (OutOfSpec s) = At7 codec asked (OutOfSpec s) bytes
Refuses codec asked bytes (NotYetImplemented N.N1) = At5 asked (λ place f. N1 f) bytes
Refuses codec asked bytes (NotYetImplemented N.N2) = N2 bytes
Refuses codec asked bytes (NotYetImplemented N.N3) = At5 asked (λ place f. N3 f) bytes
Refuses codec asked bytes (NotYetImplemented N.N5) = At6 codec asked (NotYetImplemented N.N5) bytes
Refuses codec asked bytes (NotYetImplemented N.N6) = At6 codec asked (NotYetImplemented N.N6) bytes
Refuses codec asked bytes (NotYetImplemented N.N7) = N7 bytes ⊎ At6 codec asked (NotYetImplemented N.N7) bytes
Refuses codec asked bytes (NotYetImplemented n) = At7 codec asked (NotYetImplemented n) bytes
Refuses codec asked bytes (InvalidArgumentError A.A1) = ⊥
Refuses codec asked bytes (InvalidArgumentError A.A7) = At8 codec asked A7At bytes
Refuses codec asked bytes (InvalidArgumentError A.A8) = ⊥
Refuses codec asked bytes (InvalidArgumentError a) = At6 codec asked (InvalidArgumentError a) bytes
Refuses codec asked bytes (Overflow V.V3) = At8 codec asked (V3At codec asked) bytes
Refuses codec asked bytes (Overflow v) = At7 codec asked (Overflow v) bytes
Refuses codec asked bytes Memory = ⊥

-- ---- a valid input

-- no condition holds of it
abbrev pub Valid : Codec → Asked → List ℕ → Type 0
Valid codec asked bytes = (asked.chunk_size ≢ Some 0) × (length bytes ≤ asked.byte_limit) × ((e : Error) → Refuses codec asked bytes e → ⊥)
