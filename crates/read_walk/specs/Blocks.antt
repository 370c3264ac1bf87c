-- What a block of pairs adds.
use Rattle.std.specs.Prelude.{◌≡◌, ◌⊎◌, ℕ, ◌+◌, Option, Some, List, [], ◌∷◌, ◌++◌, map, length}
use Rattle.shredding.specs.Slot.{Value, Slot}
use Rattle.shredding.specs.Shred.{Triple, max_definition, max_repetition}
use Rattle.shredding.specs.Local.{inside}
use Rattle.read_laws.specs.State.{Kept, kept_way, leaf_count, StateFits}
use Rattle.read_laws.specs.Column.{kept_column, slot_of, triple}
use Rattle.read_laws.specs.Block.{walk}
use Rattle.read_laws.specs.Blocks.{mark_of}
use Rattle.read_state.specs.Kinds.{HasLongItems}
use Rattle.columns_base.specs.declared.error.Error.{Error}
use Rattle.columns_base.specs.declared.error.Error.TheVariants.{Overflow}
use Rattle.columns_base.specs.declared.error.V.TheVariants.{V1}
use Rattle.read_walk.specs.Gives.{given, called, Each}
use Rattle.read_walk.specs.Order.{zipped, last_level, EndedAt}
use Rattle.read_walk.specs.Walk.{mark_pair}
use Rattle.read_walk.specs.Values.{Stored, AreThere, CannotDecode, bytes_of, bytes_in}

-- an error for which a block cannot be taken, with its cause
abbrev pub CannotTake : ℕ → List ℕ → List ℕ → List Kept → List Stored → List Slot → Error → Type 0
CannotTake limit reps defs ks left slots e =
    ((e ≡ Overflow V1) × HasLongItems (walk (map mark_pair (zipped reps defs)) ks) × AreThere (called (max_definition (kept_way ks)) defs) left) ⊎ CannotDecode limit (called (max_definition (kept_way ks)) defs) left slots e

-- pairs with what they give
abbrev pub triples_of : List ℕ → List ℕ → List (Option Value) → List Triple
triples_of (r ∷ rs) (d ∷ ds) (o ∷ os) = triple r d o ∷ triples_of rs ds os
triples_of _ _ _ = []

-- A block taken: each pair gives a value exactly at the greatest definition level, and what the pairs give is appended to the column that the
-- state and the decoded slots stand for.
pub record TookBlock (before : Option ℕ) (reps defs : List ℕ) (ks ks' : List Kept) (slots slots' : List Slot) (left left' : List Stored) : Type 0 where
  pub gives : List (Option Value)
  pub each : Each (inside (kept_way ks) (max_repetition (kept_way ks))) (max_definition (kept_way ks)) (slot_of slots') (length slots) defs gives
  pub fits : StateFits ks'
  pub way : kept_way ks' ≡ kept_way ks
  pub ended : EndedAt (last_level before (zipped reps defs)) ks'
  pub column : kept_column (slot_of slots') ks' ≡ kept_column (slot_of slots) ks ++ triples_of reps defs gives
  pub decoded : length slots' ≡ leaf_count ks'
  pub values : left ≡ map Some (given gives) ++ left'
  pub sized : bytes_in slots' ≡ bytes_in slots + bytes_of (given gives)
  pub walked : ks' ≡ walk (map mark_of (triples_of reps defs gives)) ks
  pub counted : HasLongItems ks' → ⊥
