-- Groups of the input in chunks of arrays, as they are read and written, and why an output is refused.
use Rattle.std.specs.Prelude.{◌≡◌, ◌⊎◌, ℕ, List, ◌∷◌, ◌++◌, map, Option}
use Rattle.std.specs.List.{AllZip}
use Rattle.shredding.specs.Slot.{Slots}
use Rattle.columns_base.specs.declared.error.Error.{Error}
use Rattle.columns_base.specs.declared.error.Error.TheVariants.{InvalidArgumentError, Overflow}
use Rattle.columns_base.specs.declared.error.A.TheVariants.{A7}
use Rattle.columns_base.specs.declared.error.V.TheVariants.{V3}
use Rattle.columns_core.specs.Tree.{FieldTrees}
use Rattle.columns_slots.specs.Tree.{ArrayTrees}
use Rattle.pq_metadata.specs.Footer.{GroupMeta}
use Rattle.pq_tree.specs.Tree.{Schema, columns_of}
use Rattle.pq_files.specs.Carried.{GroupPages, column_in}
use Rattle.pq_files.specs.Layout.{OutGroup}
use Rattle.schema_to_tree.specs.Table.{schema_of}
use Rattle.write_counts.specs.Passing.{GroupPasses}
use Rattle.pq_headline.specs.Columns.{schema_columns}
use Rattle.pq_headline.specs.Arrays.{rows_of, all_entries, seen_in}
use Rattle.pq_headline.specs.Lists.{AllZip3}
use Rattle.pq_headline.specs.Output.{IsLaidGroup, HasWideDecimal, PieceIsTooLarge, all_chosen}
use Rattle.pq_headline.specs.Rewrites.{Asked, Piece, all_pieces}
use Rattle.pq_headline.specs.Rows.{HoldsRows, AreAllEntries, seen_from}

-- ---- what was read

-- A chunk has the rows of a piece, and the entries of its dictionaries are those of the source.
pub record IsPieceAs (fs : FieldTrees) (tree : Schema) (p : Piece) (cs : ArrayTrees) : Type 0 where
  pub rows_are : p.rows ≡ rows_of cs
  pub entries : AreAllEntries (schema_columns fs) (columns_of tree) (map column_in p.source.chunks) (all_entries cs)

-- Some groups that the footer tells of, and the rows that each holds, piece by piece in chunks.
pub record HasRead (n : Option ℕ) (fs : FieldTrees) (tree : Schema) (bytes : List ℕ) (place : ℕ) (metas : List GroupMeta) (chunks : List ArrayTrees) : Type 0 where
  pub groups : List GroupPages
  pub rows : List (List Slots)
  pub hold : AllZip3 (HoldsRows fs bytes place (columns_of tree)) metas groups rows
  pub pieces : AllZip (IsPieceAs fs tree) (all_pieces n groups rows) chunks
  pub shows : map seen_in chunks ≡ map (λ p. seen_from 0 fs p.rows) (all_pieces n groups rows)

-- ---- what is written of it

-- a chunk, laid out
abbrev pub IsWrittenAs : Asked → FieldTrees → ArrayTrees → OutGroup → Type 0
IsWrittenAs asked fs cs out = IsLaidGroup asked.style (rows_of cs) (schema_columns fs) (columns_of (schema_of fs)) (all_chosen asked.delta (schema_columns fs) (columns_of (schema_of fs))) (all_entries cs) out

-- Behind these groups the chunk's group passes the counts of a footer.
abbrev pub PassesCounts : Asked → FieldTrees → List OutGroup → ArrayTrees → Type 0
PassesCounts asked fs outs cs = (out : OutGroup) × IsWrittenAs asked fs cs out × GroupPasses asked.version (columns_of (schema_of fs)) outs out

-- Why a chunk is not written behind these groups.
abbrev pub RefusesChunk : Asked → FieldTrees → List OutGroup → ArrayTrees → Error → Type 0
RefusesChunk asked fs outs cs e =
    ((e ≡ InvalidArgumentError A7) × HasWideDecimal fs (rows_of cs))
    ⊎ ((e ≡ Overflow V3) × (PieceIsTooLarge asked.style fs (rows_of cs) (all_entries cs) ⊎ PassesCounts asked fs outs cs))

-- One of these chunks is refused so, behind those before it.
pub record IsRefusedAt (asked : Asked) (fs : FieldTrees) (chunks : List ArrayTrees) (e : Error) : Type 0 where
  pub before : List ArrayTrees
  pub chunk : ArrayTrees
  pub rest : List ArrayTrees
  pub parts : chunks ≡ before ++ chunk ∷ rest
  pub outs : List OutGroup
  pub written : AllZip (IsWrittenAs asked fs) before outs
  pub refused : RefusesChunk asked fs outs chunk e
