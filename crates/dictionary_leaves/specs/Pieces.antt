-- Arrays of a dictionary type by keys and entries (Arrow columnar format, "Dictionary-encoded Layout").
use Rattle.std.specs.Prelude.{◌≡◌, ◌⊎◌, Option, Some, None, Result, Ok, Err, List}
use Rattle.columns_array.specs.Boxed.{boxed}
use Rattle.columns_array.specs.Fits.{FitsKeys}
use Rattle.columns_base.specs.declared.error.Error.{Error}
use Rattle.columns_base.specs.declared.error.Error.TheVariants.{Memory}
use Rattle.columns_core.specs.Shapes.{base}
use Rattle.columns_core.specs.Tree.{TypeTree}
use Rattle.columns_leaf.specs.Keyed.{key_mask, keys_of}
use Rattle.columns_leaf.specs.declared.keys.DictionaryKeys.{DictionaryKeys}
use Rattle.columns_slots.specs.Tree.{ArrayTree, dictionary_array}
use Rattle.read_laws.specs.State.{Kept}
use Rattle.read_pieces.specs.declared.piece.ColumnPiece.{ColumnPiece}

-- The piece has the state, and the dictionary array of the keys and these entries; or the keys do not fit them, or there is no memory. None and
-- errors are handed on.
abbrev pub MakesDictionary : TypeTree → ArrayTree → Option (Result (List Kept × DictionaryKeys) Error) → Option (Result ColumnPiece Error) → Type 0
MakesDictionary t a None None = Unit {0}
MakesDictionary t a (Some (Ok v)) (Some (Ok p)) = (p.nested ≡ v.0) × (boxed p.values ≡ dictionary_array t (keys_of v.1) a (key_mask v.1))
MakesDictionary t a (Some (Ok v)) (Some (Err e)) = (e ≡ Memory) ⊎ (FitsKeys (base t) v.1 a → ⊥)
MakesDictionary t a (Some (Err f)) (Some (Err e)) = e ≡ f
MakesDictionary t a item result = ⊥
