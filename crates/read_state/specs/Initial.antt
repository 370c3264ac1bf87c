-- The parts of a state before the first pair.
use Rattle.std.specs.Prelude.{◌≡◌, ℕ, zero, Bool, Option, Some, None, List, [], ◌∷◌, map, if◌then◌else◌}
use Rattle.shredding.specs.Slot.{Slot}
use Rattle.shredding.specs.Shape.{Way, at_leaf, in_list, in_struct}
use Rattle.read_laws.specs.State.{Kept, kept_leaf, kept_list, kept_struct, kept_way, leaf_count, StateFits}
use Rattle.read_laws.specs.Column.{kept_column}
use Rattle.read_state.specs.declared.init.InitNested.{InitNested}
use Rattle.read_state.specs.declared.init.InitNested.TheVariants.{Primitive, List as ListOf, Struct}

-- no validity, of a part that keeps any
abbrev pub no_validity : Bool → Option (List Bool)
no_validity n = if n then Some [] else None

abbrev pub initial : InitNested → Kept
initial (Primitive n) = kept_leaf n 0
initial (ListOf n) = kept_list (no_validity n) []
initial (Struct n) = kept_struct (no_validity n) 0

-- ---- parts that end in their only leaf, and the way to it

abbrev pub IsWay : List InitNested → Way → Type 0
IsWay [] w = ⊥
IsWay (Primitive n ∷ parts) w = (parts ≡ []) × (w ≡ at_leaf n)
IsWay (ListOf n ∷ parts) w = (inner : Way) × IsWay parts inner × (w ≡ in_list n inner)
IsWay (Struct n ∷ parts) w = (inner : Way) × IsWay parts inner × (w ≡ in_struct n zero inner)

-- the state of such parts before the first pair: it fits, is of the way, and stands for no triple
pub record IsEmpty (w : Way) (ks : List Kept) : Type 0 where
  pub fits : StateFits ks
  pub way : kept_way ks ≡ w
  pub leaf : leaf_count ks ≡ 0
  pub column : (slots : ℕ → Slot) → kept_column slots ks ≡ []

abbrev pub StatesBeginEmpty : Type 0
StatesBeginEmpty = (parts : List InitNested) (w : Way) → IsWay parts w → IsEmpty w (map initial parts)
