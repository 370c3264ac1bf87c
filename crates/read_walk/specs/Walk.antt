-- What the walk takes from a page, what it adds, and why it is refused.
use Rattle.std.specs.Prelude.{◌≡◌, ◌⊎◌, ℕ, ◌+◌, ◌-◌, ◌<◌, ◌≤◌, Bool, false, is_some, nat_eq, Some, None, Ok, List, [], ◌∷◌, ◌++◌, map, length, count_by}
use Rattle.columns_base.specs.declared.error.Error.{Error}
use Rattle.columns_base.specs.declared.error.Error.TheVariants.{OutOfSpec, Overflow}
use Rattle.columns_base.specs.declared.error.S.TheVariants.{S4, S5, S10}
use Rattle.columns_base.specs.declared.error.V.TheVariants.{V1}
use Rattle.shredding.specs.Slot.{Value, Slot}
use Rattle.shredding.specs.Shape.{Way}
use Rattle.shredding.specs.Shred.{Triple, max_definition, max_repetition}
use Rattle.read_laws.specs.State.{Kept, kept_way, leaf_count, StateFits}
use Rattle.read_laws.specs.Column.{kept_column, slot_of}
use Rattle.read_laws.specs.Block.{Mark, walk}
use Rattle.read_laws.specs.Blocks.{mark_of}
use Rattle.read_state.specs.Kinds.{HasLongItems}
use Rattle.read_walk.specs.Gives.{given, called}
use Rattle.read_walk.specs.Order.{last_level, IsPast, IsOutside}
use Rattle.read_walk.specs.Pairs.{Pair, Item, fault, StopsAt}
use Rattle.read_walk.specs.Values.{Stored, AreThere, CannotDecode, bytes_of, bytes_in}

abbrev pub pair_of : Triple → Pair
pair_of t = (t.repetition, t.definition)

abbrev pub begins : Pair → Bool
begins p = nat_eq p.0 0

-- how many rows pairs begin
abbrev pub begun : List Pair → ℕ
begun ps = count_by begins ps

-- the values of triples
abbrev pub values_of : List Triple → List Value
values_of ts = given (map (λ t. t.value) ts)

-- a value exactly at the greatest definition level, and no level above its greatest
abbrev pub AreWithin : Way → List Triple → Type 0
AreWithin w [] = Unit {0}
AreWithin w (t ∷ ts) = (t.repetition ≤ max_repetition w) × (t.definition ≤ max_definition w) × (is_some t.value ≡ nat_eq t.definition (max_definition w)) × AreWithin w ts

-- What the walk took: triples, whose pairs the page gave and whose values are the next that were stored. The column that the state and the
-- decoded slots stand for grew by them, and the state fits as before and is what the pairs make of it one by one. As many rows began as were wanted, or the page ended before.
pub record Extends (rows : ℕ) (page page' : List Item) (left left' : List Stored) (ks ks' : List Kept) (slots slots' : List Slot) : Type 0 where
  pub triples : List Triple
  pub pairs : page ≡ map Ok (map pair_of triples) ++ page'
  pub values : left ≡ map Some (values_of triples) ++ left'
  pub column : kept_column (slot_of slots') ks' ≡ kept_column (slot_of slots) ks ++ triples
  pub within : AreWithin (kept_way ks) triples
  pub way : kept_way ks' ≡ kept_way ks
  pub fits : StateFits ks'
  pub decoded : length slots' ≡ leaf_count ks'
  pub built : ks' ≡ walk (map mark_of triples) ks
  pub sized : bytes_in slots' ≡ bytes_in slots + bytes_of (values_of triples)
  pub counted : 0 < length triples → HasLongItems ks' → ⊥
  pub most : begun (map pair_of triples) ≤ rows
  pub stops : StopsAt (rows - begun (map pair_of triples)) page'

-- ---- why the walk is refused

-- the next pairs, of which no more than wanted begin a row
pub record AreWanted (rows : ℕ) (page : List Item) (ps : List Pair) (rest : List Item) : Type 0 where
  pub pairs : page ≡ map Ok ps ++ rest
  pub few : begun ps ≤ rows

-- among what is wanted a level is missing or above its greatest
pub record IsUnreadable (w : Way) (rows : ℕ) (page : List Item) : Type 0 where
  pub front : List Pair
  pub rest : List Item
  pub bad : (AreWanted rows page front (fault ∷ rest)) ⊎ ((p : Pair) × AreWanted rows page (front ++ p ∷ []) rest × IsPast w p)

-- the first pair goes on with a row
pub record GoesOn (page : List Item) : Type 0 where
  pub first : Pair
  pub rest : List Item
  pub pairs : page ≡ Ok first ∷ rest
  pub repeats : 0 < first.0

-- a wanted pair after the first repeats in a list that it, or the pair before it, does not lie inside
pub record IsOutOfOrder (w : Way) (rows : ℕ) (page : List Item) : Type 0 where
  pub front : List Pair
  pub level : ℕ
  pub pair : Pair
  pub rest : List Item
  pub wanted : AreWanted rows page (front ++ pair ∷ []) rest
  pub last : last_level None front ≡ Some level
  pub outside : IsOutside w level pair

abbrev pub mark_pair : Pair → Mark
mark_pair p = record { repetition = p.0; definition = p.1; hidden = false }

-- After wanted pairs, whose values are there, a part beneath a list has more slots than offsets of 64 bits count.
pub record GrowsTooLong (rows : ℕ) (page : List Item) (left : List Stored) (ks : List Kept) : Type 0 where
  pub pairs : List Pair
  pub rest : List Item
  pub wanted : AreWanted rows page pairs rest
  pub some : 0 < length pairs
  pub long : HasLongItems (walk (map mark_pair pairs) ks)
  pub there : AreThere (called (max_definition (kept_way ks)) (map (λ p. p.1) pairs)) left

-- the values that wanted pairs call for cannot be decoded
pub record CannotFill (limit rows : ℕ) (page : List Item) (left : List Stored) (ks : List Kept) (slots : List Slot) (e : Error) : Type 0 where
  pub pairs : List Pair
  pub rest : List Item
  pub wanted : AreWanted rows page pairs rest
  pub why : CannotDecode limit (called (max_definition (kept_way ks)) (map (λ p. p.1) pairs)) left slots e

-- an error for which the walk is refused, with its cause
abbrev pub Refuses : ℕ → ℕ → List Item → List Stored → List Kept → List Slot → Error → Type 0
Refuses limit rows page left ks slots e =
    ((e ≡ OutOfSpec S4) × IsUnreadable (kept_way ks) rows page)
    ⊎ (((e ≡ OutOfSpec S5) × GoesOn page)
    ⊎ (((e ≡ OutOfSpec S10) × IsOutOfOrder (kept_way ks) rows page)
    ⊎ (((e ≡ Overflow V1) × GrowsTooLong rows page left ks)
    ⊎ CannotFill limit rows page left ks slots e)))
