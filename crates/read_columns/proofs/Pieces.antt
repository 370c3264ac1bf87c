-- What a call for the next piece gives, by the reader that it asks.
use Rattle.std.proofs.Common.{◌≡◌, inl, inr, Option, Some, None, true, List, map, refl, ap, ◌∙◌}
use Rattle.std.specs.Prelude.{Result, Ok, Err}
use Rattle.columns_base.specs.declared.error.Error.{Error}
use Rattle.columns_core.specs.Shapes.{base}
use Rattle.columns_core.specs.Tree.{TypeTree, t_dictionary}
use Rattle.columns_core.specs.declared.types.IntegerType.{IntegerType}
use Rattle.columns_slots.specs.Types.{key_type}
use Rattle.dictionary_leaves.specs.Dictionaries.{IsDictionaryPiece}
use Rattle.dictionary_leaves.specs.EntryTypes.{EntryReading}
use Rattle.dictionary_leaves.specs.Stages.{DictionaryReading, IsAtStage, IsReadingDictionary, StageReading}
use Rattle.pq_headline.specs.Columns.{is_dictionary}
use Rattle.read_columns.specs.Columns.{IsColumnPiece, IsReadingColumn}
use Rattle.read_leaves.specs.Leaf.{IsReadingLeaf, LeafReading}
use Rattle.read_pieces.specs.Columns.{ColumnOpening, GivesPiece}
use Rattle.read_pieces.specs.Pieces.{IsPieceOf}
use Rattle.read_pieces.specs.declared.piece.ColumnPiece.{ColumnPiece}
use Rattle.shredding.specs.Shred.{Triple}

pub leaf_gives : (o : ColumnOpening) (t : TypeTree) (pieces : List (List Triple)) (old now : LeafReading) (result : Option (Result ColumnPiece Error)) → IsReadingLeaf o t pieces old → GivesPiece (λ x ps r. IsReadingLeaf x t ps r) (λ p ts. IsPieceOf o.column t ts None p) o pieces result now → GivesPiece (λ x ps r. IsReadingColumn x t ps r) (λ p ts. IsColumnPiece o t ts p) o pieces result (inl now)
unfolding IsReadingColumn
leaf_gives o t pieces old now None r g = g
leaf_gives o t pieces old now (Some (Err e)) r g = g
leaf_gives o t pieces old now (Some (Ok p)) r (ts, next, piece, reads) = (ts, next, record { entries = None; piece = piece; are = r.reads.readable.direct }, reads)

keyed : (t : TypeTree) (key : IntegerType) → key_type t ≡ Some key → is_dictionary t ≡ true
keyed (t_dictionary k e s) key h = refl
keyed t key h = absurd (cc h)

at_stage : (o : ColumnOpening) (t : TypeTree) (e : EntryReading) (pieces : List (List Triple)) (s : StageReading) → IsAtStage o t e pieces s → is_dictionary o.column.data_type ≡ true
at_stage o t e pieces (Some (inl u)) (none, h) = ap is_dictionary h.opening.typed ∙ keyed (base t) e.key h.are.keyed
at_stage o t e pieces (Some (inr v)) h = h.has.typed
at_stage o t e pieces None h = absurd h

pub dictionary_gives : (o : ColumnOpening) (t : TypeTree) (pieces : List (List Triple)) (old now : DictionaryReading) (result : Option (Result ColumnPiece Error)) → IsReadingDictionary o t pieces old → GivesPiece (λ x ps r. IsReadingDictionary x t ps r) (λ p ts. IsDictionaryPiece o t ts p) o pieces result now → GivesPiece (λ x ps r. IsReadingColumn x t ps r) (λ p ts. IsColumnPiece o t ts p) o pieces result (inr now)
unfolding IsReadingColumn
dictionary_gives o t pieces old now None r g = g
dictionary_gives o t pieces old now (Some (Err e)) r g = g
dictionary_gives o t pieces old now (Some (Ok p)) r (ts, next, piece, reads) = (ts, next, record { entries = Some (map Some piece.values); piece = piece.piece; are = (at_stage o t old.entries pieces old.stage r.stage, (piece.values, refl, piece.dictionary)) }, reads)
