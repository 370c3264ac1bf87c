-- What contracts see of the pieces that are read but not given yet.
use Rattle.std.specs.Prelude.{◌≡◌, ℕ, ◌+◌, ◌-◌, ◌^◌, ◌<◌, ◌≤◌, Bool, true, false, Option, Some, Result, Ok, List, [], ◌∷◌, ◌++◌, map, length}
use Rattle.columns_base.specs.declared.error.Error.{Error}
use Rattle.shredding.specs.Slot.{Slot}
use Rattle.pq_headline.specs.Openings.{piece_size}
use Rattle.read_laws.specs.State.{Kept, count, leaf_count, StateFits}
use Rattle.read_state.specs.Initial.{initial}
use Rattle.read_state.specs.declared.init.InitNested.{InitNested}
use Rattle.read_state.specs.declared.init.InitNested.TheVariants.{Primitive, List as ListOf, Struct}
use Rattle.read_walk.specs.Pairs.{Item}
use Rattle.read_walk.specs.Values.{Stored}
use Rattle.read_walk.specs.Walk.{Extends}

-- lists and structs above one leaf
abbrev pub ends_in_leaf : List InitNested → Bool
ends_in_leaf [] = false
ends_in_leaf (Primitive n ∷ []) = true
ends_in_leaf (Primitive n ∷ part ∷ parts) = false
ends_in_leaf (ListOf n ∷ parts) = ends_in_leaf parts
ends_in_leaf (Struct n ∷ parts) = ends_in_leaf parts

-- no part but the leaf
abbrev pub is_leaf_alone : List InitNested → Bool
is_leaf_alone (Primitive n ∷ []) = true
is_leaf_alone parts = false

-- The parts of the way, how many rows go into a piece, the whole pieces, the last one's state and leaf slots, how many bytes each value of the
-- leaf has, where all have as many, how many rows the last piece gets, and how many are left behind it.
pub record Waiting : Type 0 where
  pub parts : List InitNested
  pub chunk_size : Option ℕ
  pub whole : List (List Kept × List Slot)
  pub state : List Kept
  pub leaf : List Slot
  pub width : ℕ
  pub rows : ℕ
  pub left : ℕ

-- The last piece can be extended: its state fits, the leaf has its slots, and it has no more rows than it gets. Its rows and those
-- behind it are counted by 64 bits.
pub record IsSound (parts : List InitNested) (state : List Kept) (leaf : List Slot) (rows left : ℕ) : Type 0 where
  pub way : ends_in_leaf parts ≡ true
  pub fits : StateFits state
  pub decoded : length leaf ≡ leaf_count state
  pub room : count state ≤ rows
  pub few : rows + left < 2 ^ 64

-- how many rows are still to come
abbrev pub rows_to_come : Waiting → ℕ
rows_to_come q = (q.rows - count q.state) + q.left

-- before the first pair
abbrev pub begun_queue : ℕ → List InitNested → Option ℕ → ℕ → Waiting
begun_queue width parts n rows =
    record {
      parts = parts;
      chunk_size = n;
      whole = [];
      state = map initial parts;
      leaf = [];
      width = width;
      rows = piece_size n rows;
      left = rows - piece_size n rows;
    }

-- with the last piece among the whole ones, and another behind it
abbrev pub closed_queue : Waiting → Waiting
closed_queue q =
    record {
      parts = q.parts;
      chunk_size = q.chunk_size;
      whole = q.whole ++ (q.state, q.leaf) ∷ [];
      state = map initial q.parts;
      leaf = [];
      width = q.width;
      rows = piece_size q.chunk_size q.left;
      left = q.left - piece_size q.chunk_size q.left;
    }

-- the last piece was extended, and nothing else changed
pub record ExtendsLast (q q' : Waiting) (page page' : List Item) (left left' : List Stored) : Type 0 where
  pub same : q' ≡ record q { state = q'.state; leaf = q'.leaf }
  pub extends : Extends (q.rows - count q.state) page page' left left' q.state q'.state q.leaf q'.leaf

-- what waits, if anything does, has a width that suits
abbrev pub IsSuited : (ℕ → Type 0) → Option Waiting → Type 0
IsSuited suits queue = (q : Waiting) → queue ≡ Some q → suits q.width

-- so have the values of a piece that is given, if one is
abbrev pub GivesSuited : {K V : Type 0} → (V → Type 0) → Option (Result (K × V) Error) → Type 0
GivesSuited {K = K} {V = V} suits item = (k : K) (v : V) → item ≡ Some (Ok (k, v)) → suits v
