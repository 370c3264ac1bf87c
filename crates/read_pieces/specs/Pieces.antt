-- A piece of a column: the triples of some whole rows, and the state and the leaf slots that they were read into (Dremel paper, section 4.3).
use Rattle.std.specs.Prelude.{◌≡◌, Option, List, [], ◌∷◌, ◌++◌, map, length, All}
use Rattle.shredding.specs.Along.{thin}
use Rattle.shredding.specs.Local.{IsWithin}
use Rattle.shredding.specs.Shape.{Way, at_leaf, in_list, in_struct}
use Rattle.shredding.specs.Shred.{Triple}
use Rattle.shredding.specs.Slot.{Slot, Value}
use Rattle.columns_core.specs.Tree.{TypeTree, t_list, t_fixed_size_list, t_large_list, t_struct, t_map, t_extension, FieldTree, field, FieldTrees, no_fields, more_fields}
use Rattle.columns_array.specs.Boxed.{boxed}
use Rattle.columns_slots.specs.Slots.{slots, type_of}
use Rattle.read_laws.specs.Block.{walk}
use Rattle.read_laws.specs.Blocks.{mark_of}
use Rattle.read_laws.specs.Column.{kept_column, slot_of}
use Rattle.read_laws.specs.State.{Kept, kept_leaf, kept_list, kept_struct, kept_way, leaf_count, StateFits}
use Rattle.read_state.specs.Initial.{no_validity}
use Rattle.read_pieces.specs.declared.piece.ColumnPiece.{ColumnPiece}
use Rattle.pq_headline.specs.Arrays.{entries_in}
use Rattle.pq_headline.specs.Columns.{ArrowColumn}

-- the state of a way before the first pair
abbrev pub empty_state : Way → List Kept
empty_state (at_leaf n) = kept_leaf n 0 ∷ []
empty_state (in_list n w) = kept_list (no_validity n) [] ∷ empty_state w
empty_state (in_struct n i w) = kept_struct (no_validity n) 0 ∷ empty_state w

-- The state is what the pairs of the triples build, one by one, and with the leaf's slots it stands for the triples.
pub record IsPiece (w : Way) (ts : List Triple) (ks : List Kept) (leaf : List Slot) : Type 0 where
  pub built : ks ≡ walk (map mark_of ts) (empty_state w)
  pub fits : StateFits ks
  pub way : kept_way ks ≡ thin w
  pub column : kept_column (slot_of leaf) ks ≡ ts
  pub decoded : length leaf ≡ leaf_count ks
  pub within : All (IsWithin w) ts

-- ---- the pieces of a field's columns

-- the type of the leaf of each column, with its extensions
abbrev mutual
  pub type_leaves : TypeTree → TypeTree → List TypeTree
  type_leaves own (t_list item) = leaf_types item
  type_leaves own (t_large_list item) = leaf_types item
  type_leaves own (t_fixed_size_list item n) = leaf_types item
  type_leaves own (t_map entry is_sorted) = leaf_types entry
  type_leaves own (t_struct fields) = all_leaf_types fields
  type_leaves own (t_extension name inner metadata) = type_leaves own inner
  type_leaves own t = own ∷ []

  pub leaf_types : FieldTree → List TypeTree
  leaf_types (field name t is_nullable metadata) = type_leaves t t

  pub all_leaf_types : FieldTrees → List TypeTree
  all_leaf_types no_fields = []
  all_leaf_types (more_fields f fs) = leaf_types f ++ all_leaf_types fs

-- A piece of the column, and the array of its leaf, which has this type. Of a dictionary it has these entries, else none.
pub record IsPieceOf (c : ArrowColumn) (t : TypeTree) (ts : List Triple) (e : Option (List (Option Value))) (p : ColumnPiece) : Type 0 where
  pub is : IsPiece c.way ts p.nested (slots (boxed p.values))
  pub typed : type_of (boxed p.values) ≡ t
  pub entries : entries_in (boxed p.values) ≡ e ∷ []

-- one for each column
abbrev pub ArePiecesOf : List ArrowColumn → List TypeTree → List (List Triple) → List (Option (List (Option Value))) → List ColumnPiece → Type 0
ArePiecesOf [] [] [] [] [] = Unit {0}
ArePiecesOf (c ∷ cs) (t ∷ types) (ts ∷ tables) (e ∷ es) (p ∷ ps) = IsPieceOf c t ts e p × ArePiecesOf cs types tables es ps
ArePiecesOf _ _ _ _ _ = ⊥
