-- The arrays of a type with the parts above them, as they are given one after another (Dremel paper, section 4.3; Arrow columnar format).
use Rattle.std.specs.Prelude.{◌≡◌, ◌⊎◌, Bool, List, map, All, Option, Some, None, Result, Ok, Err}
use Rattle.columns_array.specs.declared.arrays.ArrayBox.{ArrayBox}
use Rattle.columns_base.specs.declared.error.Error.{Error}
use Rattle.columns_base.specs.declared.error.Error.TheVariants.{Memory, OutOfSpec}
use Rattle.columns_base.specs.declared.error.S.TheVariants.{S10}
use Rattle.columns_core.specs.Shapes.{type_shape}
use Rattle.columns_core.specs.Tree.{TypeTree}
use Rattle.pq_files.specs.Reasons.{AnyOf}
use Rattle.pq_headline.specs.Columns.{type_columns}
use Rattle.read_columns.specs.Columns.{ColumnReading}
use Rattle.read_laws.specs.State.{Kept}
use Rattle.read_nested.specs.Above.{Above}
use Rattle.read_nested.specs.Beneath.{columns_beneath, IsBeneath, CannotJoinColumns}
use Rattle.read_nested.specs.Joined.{HasFlatEntries, HasFixedList}
use Rattle.read_pieces.specs.Columns.{IsNextPiece, IsWhole, RefusesPiece, rows_of_all}
use Rattle.read_pieces.specs.Pieces.{type_leaves}
use Rattle.read_pieces.specs.declared.piece.ColumnPiece.{ColumnPiece}
use Rattle.shredding.specs.Shape.{HasNoEmptyStruct}
use Rattle.shredding.specs.Shred.{Triple}
use Rattle.shredding.specs.Slot.{Value}
use Rattle.struct_iters.specs.Progress.{Progress, AreAt, AreEntries, AreGone, AreNext, AreWhole, all_further}

-- what an iterator keeps: the type of its arrays, and the readers of its columns, none where a column has ended
pub record ItemsReading : Type 0 where
  pub type : TypeTree
  pub readers : List (Option ColumnReading)

-- The columns are those of the type, which may be null or not, beneath these parts. Each struct has fields, and the entries of dictionaries have nothing inside them.
pub record AreColumns (above : List Above) (n : Bool) (t : TypeTree) (xs : List Progress) : Type 0 where
  pub columns : map (λ x. x.opening.column) xs ≡ columns_beneath above n t
  pub types : map (λ x. x.type) xs ≡ type_leaves t t
  pub full : HasNoEmptyStruct (type_shape n t)
  pub flat : All (λ c. HasFlatEntries c.data_type) (type_columns n t)

-- The iterator gives arrays of this type beneath these parts, and its columns were read so far.
pub record IsGivingItems (above : List Above) (n : Bool) (t : TypeTree) (xs : List Progress) (it : ItemsReading) : Type 0 where
  pub are : AreColumns above n t xs
  pub typed : it.type ≡ t
  pub readers : AreAt xs it.readers

-- An item of one piece of each column: parts as those above, and an array of the type, which together are the states of the pieces' triples.
pub record IsItemOf (above : List Above) (n : Bool) (t : TypeTree) (xs : List Progress) (item : List Kept × ArrayBox) (now : ItemsReading) : Type 0 where
  pub table : List (List Triple)
  pub next : AreNext xs table
  pub entries : List (Option (List (Option Value)))
  pub are : AreEntries xs entries
  pub beneath : IsBeneath above n t table entries (record { nested = item.0; values = item.1 })
  pub giving : IsGivingItems above n t (all_further xs table) now

-- a column has ended where another one goes on
abbrev pub EndApart : List Progress → Type 0
EndApart xs = AnyOf (λ x. IsWhole x.opening x.given) xs × AnyOf (λ x. (ts : List Triple) × IsNextPiece x.opening (rows_of_all x.given) ts) xs

-- Why no item comes: want of memory, a column's own reason, a column that ends before another, or pieces that are not joined.
abbrev pub CannotGive : List Above → Bool → TypeTree → List Progress → Error → Type 0
CannotGive above n t xs e =
    (e ≡ Memory)
    ⊎ AnyOf (λ x. RefusesPiece x.opening e) xs
    ⊎ ((e ≡ OutOfSpec S10) × EndApart xs)
    ⊎ ((table : List (List Triple)) × AreNext xs table × CannotJoinColumns (HasFixedList t) (columns_beneath above n t) table e)

-- What a call gives: none, and all columns are whole; an item; or an error by its condition.
abbrev pub GivesItem : List Above → Bool → TypeTree → List Progress → Option (Result (List Kept × ArrayBox) Error) → ItemsReading → Type 0
GivesItem above n t xs None now = AreWhole xs × IsGivingItems above n t xs now
GivesItem above n t xs (Some (Ok item)) now = IsItemOf above n t xs item now
GivesItem above n t xs (Some (Err e)) now = CannotGive above n t xs e

-- the same, where the item is still a piece
abbrev pub GivesPiece : List Above → Bool → TypeTree → List Progress → Option (Result ColumnPiece Error) → ItemsReading → Type 0
GivesPiece above n t xs None now = AreWhole xs × IsGivingItems above n t xs now
GivesPiece above n t xs (Some (Ok p)) now = IsItemOf above n t xs (p.nested, p.values) now
GivesPiece above n t xs (Some (Err e)) now = CannotGive above n t xs e

-- no reader is left behind the end and behind an error
abbrev pub IsAtEnd : {V : Type 0} → Option (Result V Error) → ItemsReading → Type 0
IsAtEnd None now = AreGone now.readers
IsAtEnd (Some (Err e)) now = AreGone now.readers
IsAtEnd (Some (Ok v)) now = Unit {0}
