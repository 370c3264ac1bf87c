-- A column of a dictionary type from one call to the next.
use Rattle.std.proofs.Common.{◌≡◌, Option, Some, None, List, [], ◌∷◌, ◌++◌, inl, inr, refl, sym, subst}
use Rattle.std.specs.Prelude.{Result, Ok}
use Rattle.columns_array.specs.Boxed.{boxed}
use Rattle.columns_base.specs.declared.error.Error.{Error}
use Rattle.columns_core.specs.Tree.{TypeTree}
use Rattle.columns_core.specs.declared.types.IntegerType.{IntegerType}
use Rattle.columns_slots.specs.Tree.{ArrayTree}
use Rattle.pq_pages.specs.Outcomes.{Outcome}
use Rattle.read_column.specs.Reading.{Reading}
use Rattle.read_pieces.specs.Columns.{ColumnOpening, GivesPiece}
use Rattle.read_pieces.specs.declared.piece.ColumnPiece.{ColumnPiece}
use Rattle.shredding.specs.Shred.{Triple}
use Rattle.dictionary_leaves.specs.Dictionaries.{IsDictionaryPiece, IsOpenDictionary, IsUnreadDictionary}
use Rattle.dictionary_leaves.specs.EntryTypes.{EntryReading}
use Rattle.dictionary_leaves.specs.KeyColumns.{key_in, reader_in}
use Rattle.dictionary_leaves.specs.Stages.{DictionaryReading, IsAtStage, IsReadingDictionary, StageReading, stage_view}
use Rattle.dictionary_leaves.specs.declared.column.Stage.{Stage}
use Rattle.dictionary_leaves.specs.declared.column.Stage.TheVariants as S
use Rattle.dictionary_leaves.specs.declared.first_page.Opened.{Opened}
use Rattle.dictionary_leaves.specs.declared.first_page.Unread.{Unread}

abbrev FromKeys : ColumnOpening → TypeTree → IntegerType → ArrayTree → List (List Triple) → Option (Result ColumnPiece Error) → Reading → Type 0
FromKeys o t key a pieces item r = GivesPiece (λ x ps r. IsOpenDictionary x t ps key r a) (λ p ts. IsDictionaryPiece o t ts p) o pieces item r

abbrev FromColumn : ColumnOpening → TypeTree → List (List Triple) → Option (Result ColumnPiece Error) → DictionaryReading → Type 0
FromColumn o t pieces item c = GivesPiece (λ x ps r. IsReadingDictionary x t ps r) (λ p ts. IsDictionaryPiece o t ts p) o pieces item c

-- with a piece the stage is the new one
pub gone-on : {I : Type 0} (outcomes : I → List Outcome) (o : ColumnOpening) (t : TypeTree) (e : EntryReading) (key : IntegerType) (pieces : List (List Triple)) (v : Opened I) (p : ColumnPiece) → key_in v.keys ≡ key → FromKeys o t key (boxed v.entries) pieces (Some (Ok p)) (reader_in v.keys) → FromColumn o t pieces (Some (Ok p)) (record { data_type = t; entries = e; stage = stage_view outcomes (S.Open v) })
gone-on outcomes o t e key pieces v p same (ts, next, holds, keys) = (
  ts,
  next,
  holds,
  record {
    typed = refl;
    stage = subst (λ (k : IntegerType). IsOpenDictionary o t (pieces ++ ts ∷ []) k (reader_in v.keys) (boxed v.entries)) (sym same) keys;
  },
)

pub at-ahead : {I : Type 0} (outcomes : I → List Outcome) (o : ColumnOpening) (t : TypeTree) (e : EntryReading) (pieces : List (List Triple)) (s : Stage I) (u : Unread I) → s ≡ S.Ahead u → IsAtStage o t e pieces (stage_view outcomes s) → (pieces ≡ []) × IsUnreadDictionary o t e (outcomes u.pages) u.nested.items u.chunk_size u.num_rows
at-ahead {I = I} outcomes o t e pieces s u is r = subst (λ (x : Stage I). IsAtStage o t e pieces (stage_view outcomes x)) is r

pub at-open : {I : Type 0} (outcomes : I → List Outcome) (o : ColumnOpening) (t : TypeTree) (e : EntryReading) (pieces : List (List Triple)) (s : Stage I) (v : Opened I) → s ≡ S.Open v → IsAtStage o t e pieces (stage_view outcomes s) → IsOpenDictionary o t pieces (key_in v.keys) (reader_in v.keys) (boxed v.entries)
at-open {I = I} outcomes o t e pieces s v is r = subst (λ (x : Stage I). IsAtStage o t e pieces (stage_view outcomes x)) is r

pub at-end : {I : Type 0} (outcomes : I → List Outcome) (o : ColumnOpening) (t : TypeTree) (e : EntryReading) (pieces : List (List Triple)) (s : Stage I) → s ≡ S.Ended → IsAtStage o t e pieces (stage_view outcomes s) → ⊥
at-end {I = I} outcomes o t e pieces s is r = subst (λ (x : Stage I). IsAtStage o t e pieces (stage_view outcomes x)) is r

-- ---- under the column's own type

pub typed-as : (o : ColumnOpening) (s t : TypeTree) (pieces : List (List Triple)) (item : Option (Result ColumnPiece Error)) (c : DictionaryReading) → s ≡ t → FromColumn o s pieces item c → FromColumn o t pieces item c
typed-as o s t pieces item c e given = let P : TypeTree → Type 0 = λ x. FromColumn o x pieces item c in subst P e given

pub open-as : (o : ColumnOpening) (s t : TypeTree) (pieces : List (List Triple)) (key : IntegerType) (r : Reading) (a : ArrayTree) → s ≡ t → IsOpenDictionary o t pieces key r a → IsOpenDictionary o s pieces key r a
open-as o s t pieces key r a e given = let P : TypeTree → Type 0 = λ x. IsOpenDictionary o x pieces key r a in subst P (sym e) given

pub open-first : (o : ColumnOpening) (s t : TypeTree) (pieces : List (List Triple)) (key : IntegerType) (r : Reading) (a : ArrayTree) → s ≡ t → pieces ≡ [] → IsOpenDictionary o t [] key r a → IsOpenDictionary o s pieces key r a
open-first o s t pieces key r a e none given = let P : List (List Triple) → Type 0 = λ ps. IsOpenDictionary o t ps key r a in open-as o s t pieces key r a e (subst P (sym none) given)
