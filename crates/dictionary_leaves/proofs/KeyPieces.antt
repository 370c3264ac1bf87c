-- What a reader of numbers gives, by the slots that it read.
use Rattle.std.proofs.Common.{ℕ, Option, Some, None, List}
use Rattle.std.specs.Prelude.{Result, Ok, Err}
use Rattle.columns_base.specs.declared.error.Error.{Error}
use Rattle.columns_core.specs.declared.types.IntegerType.{IntegerType}
use Rattle.columns_leaf.specs.declared.keys.DictionaryKeys.{DictionaryKeys}
use Rattle.pq_pages.specs.Outcomes.{Outcome}
use Rattle.read_column.specs.Foreseen.{GivesForeseen, foreseeing}
use Rattle.read_column.specs.Reading.{Reading}
use Rattle.read_laws.specs.State.{Kept}
use Rattle.read_pieces.specs.Columns.{ColumnOpening, GivesPiece}
use Rattle.read_pieces.specs.Pieces.{IsPiece}
use Rattle.shredding.specs.Shred.{Triple}
use Rattle.shredding.specs.Slot.{Slot}
use Rattle.dictionary_leaves.specs.KeyColumns.{GivesKeys, IsReadingKeys, MakesKeys, shown}

pieces-shown : {R V : Type 0} (Reads : ColumnOpening → List (List Triple) → R → Type 0) (slots : V → List Slot) (o : ColumnOpening) (pieces : List (List Triple)) (item : Option (Result (List Kept × V) Error)) (r : R) → GivesPiece Reads (λ (v : List Kept × V) ts. IsPiece o.column.way ts v.0 (slots v.1)) o pieces item r → GivesPiece Reads (λ (v : List Kept × List Slot) ts. IsPiece o.column.way ts v.0 v.1) o pieces (shown slots item) r
pieces-shown Reads slots o pieces None r g = g
pieces-shown Reads slots o pieces (Some (Ok v)) r g = g
pieces-shown Reads slots o pieces (Some (Err e)) r g = g

foreseen-shown : {R V : Type 0} (Reads : ColumnOpening → List (List Triple) → R → Type 0) (slots : V → List Slot) (o : ColumnOpening) (pieces : List (List Triple)) (left : List Outcome) (item : Option (Result (List Kept × V) Error)) (r : R) → GivesForeseen Reads (λ (v : List Kept × V) ts. IsPiece o.column.way ts v.0 (slots v.1)) o pieces left item r → GivesForeseen Reads (λ (v : List Kept × List Slot) ts. IsPiece o.column.way ts v.0 v.1) o pieces left (shown slots item) r
foreseen-shown Reads slots o pieces left None r g = g
foreseen-shown Reads slots o pieces left (Some (Ok v)) r g = g
foreseen-shown Reads slots o pieces left (Some (Err e)) r g = g

pub keys_given : {V : Type 0} (slots : V → List Slot) (key : IntegerType) (n : ℕ) (before after : Reading) (item : Option (Result (List Kept × V) Error)) (result : Option (Result (List Kept × DictionaryKeys) Error)) → MakesKeys key n (shown slots item) result → ((o : ColumnOpening) (pieces : List (List Triple)) → IsReadingKeys key o pieces before → GivesPiece (IsReadingKeys key) (λ (v : List Kept × V) ts. IsPiece o.column.way ts v.0 (slots v.1)) o pieces item after) → ((o : ColumnOpening) (pieces : List (List Triple)) (others : List Outcome) → IsReadingKeys key o pieces (foreseeing others before) → GivesForeseen (λ x ps r. IsReadingKeys key x ps (foreseeing others r)) (λ (v : List Kept × V) ts. IsPiece o.column.way ts v.0 (slots v.1)) o pieces before.outcomes item after) → GivesKeys key n before after result
keys_given slots key n before after item result makes gives foreseen = record {
  item = shown slots item;
  makes = makes;
  gives = λ o pieces reads. pieces-shown (IsReadingKeys key) slots o pieces item after (gives o pieces reads);
  foreseen = λ o pieces others reads. foreseen-shown (λ x ps r. IsReadingKeys key x ps (foreseeing others r)) slots o pieces before.outcomes item after (foreseen o pieces others reads);
}
