-- The array of a type beneath other parts, of one piece of each of its columns, with what is left of the pieces' states, and why there is none
-- (Dremel paper, section 4.3).
use Rattle.std.specs.Prelude.{◌≡◌, ◌⊎◌, ℕ, ◌<◌, Bool, is_some, Option, List, [], ◌∷◌, ◌++◌, map, length, All}
use Rattle.columns_base.specs.declared.error.Error.{Error}
use Rattle.columns_base.specs.declared.error.Error.TheVariants.{Memory, OutOfSpec, NotYetImplemented, Overflow}
use Rattle.columns_base.specs.declared.error.S.TheVariants.{S10}
use Rattle.columns_base.specs.declared.error.N.TheVariants.{N5}
use Rattle.columns_base.specs.declared.error.V.TheVariants.{V1}
use Rattle.shredding.specs.Shape.{HasNoEmptyStruct}
use Rattle.shredding.specs.Shred.{Triple}
use Rattle.shredding.specs.Slot.{Slot, Value}
use Rattle.columns_core.specs.Shapes.{type_shape}
use Rattle.columns_core.specs.Tree.{TypeTree}
use Rattle.columns_array.specs.Boxed.{boxed}
use Rattle.columns_slots.specs.Slots.{slot_at as array_slot, tree_len, type_of}
use Rattle.read_laws.specs.Column.{slot_of}
use Rattle.read_laws.specs.State.{Kept, kept_list, kept_struct, leaf_count}
use Rattle.read_pieces.specs.Pieces.{type_leaves, ArePiecesOf, IsPiece}
use Rattle.read_pieces.specs.declared.piece.ColumnPiece.{ColumnPiece}
use Rattle.pq_headline.specs.Arrays.{entries_in}
use Rattle.pq_headline.specs.Columns.{ArrowColumn, type_columns}
use Rattle.read_nested.specs.Above.{Above, above_list, above_struct, raised}
use Rattle.read_nested.specs.Joined.{Disagree, SomePass, HasFlatEntries}
use Rattle.read_nested.specs.Keeps.{Stands, IsFlat}

-- the columns of a type beneath these parts, in order
abbrev pub columns_beneath : List Above → Bool → TypeTree → List ArrowColumn
columns_beneath above n t = map (raised above) (type_columns n t)

-- parts that are those above, each nullable where that is
abbrev pub Aligned : List Kept → List Above → Type 0
Aligned [] [] = Unit {0}
Aligned (kept_list m starts ∷ front) (above_list n l ∷ above) = (is_some m ≡ n) × Aligned front above
Aligned (kept_struct m c ∷ front) (above_struct n i ∷ above) = (is_some m ≡ n) × Aligned front above
Aligned _ _ = ⊥

-- The state of a column's triples: these parts in front, and parts behind them that stand for the n slots that a function gives.
pub record IsStood (above : List Above) (c : ArrowColumn) (ts : List Triple) (front : List Kept) (at : ℕ → Slot) (n : ℕ) : Type 0 where
  pub leaf : List Slot
  pub state : List Kept
  pub is : IsPiece (raised above c).way ts state leaf
  pub back : List Kept
  pub some : 0 < length back
  pub parts : state ≡ front ++ back
  pub stands : Stands (slot_of leaf) c.way back at n
  pub flat : (i : ℕ) → i < leaf_count state → IsFlat (slot_of leaf i)
  pub plain : HasFlatEntries c.data_type

-- of each column
abbrev pub AllStood : List Above → List ArrowColumn → List (List Triple) → List Kept → (ℕ → Slot) → ℕ → Type 0
AllStood above [] [] front at n = Unit {0}
AllStood above (c ∷ cs) (ts ∷ tables) front at n = IsStood above c ts front at n × AllStood above cs tables front at n
AllStood above _ _ front at n = ⊥

-- A piece of each column of the type beneath these parts, with these triples, and with these entries or none. Each struct in the type has fields, and the
-- entries of a dictionary have nothing inside them.
pub record ArePiecesBeneath (above : List Above) (n : Bool) (t : TypeTree) (tables : List (List Triple)) (es : List (Option (List (Option Value)))) (ps : List ColumnPiece) : Type 0 where
  pub full : HasNoEmptyStruct (type_shape n t)
  pub flat : All (λ c. HasFlatEntries c.data_type) (type_columns n t)
  pub pieces : ArePiecesOf (columns_beneath above n t) (type_leaves t t) tables es ps

-- An array of the type, beneath parts as those above. Of each column they are the state of these triples, and the dictionaries have these entries.
pub record IsBeneath (above : List Above) (n : Bool) (t : TypeTree) (tables : List (List Triple)) (es : List (Option (List (Option Value)))) (p : ColumnPiece) : Type 0 where
  pub typed : type_of (boxed p.values) ≡ t
  pub aligned : Aligned p.nested above
  pub stood : AllStood above (type_columns n t) tables p.nested (array_slot (boxed p.values)) (tree_len (boxed p.values))
  pub entries : entries_in (boxed p.values) ≡ es

-- Why columns are not joined: two disagree, a list has more items than its offsets count, or a list of fixed size is among the parts that are joined.
abbrev pub CannotJoinColumns : Type 0 → List ArrowColumn → List (List Triple) → Error → Type 0
CannotJoinColumns fixed cs tables e = (e ≡ Memory) ⊎ ((e ≡ OutOfSpec S10) × Disagree cs tables) ⊎ ((e ≡ Overflow V1) × SomePass cs tables) ⊎ ((e ≡ NotYetImplemented N5) × fixed)
