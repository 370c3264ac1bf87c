-- What a block of pairs makes of the column.
use Rattle.std.specs.Prelude.{◌≡◌, ◌⊎◌, ℕ, ◌+◌, ◌<◌, ◌≤◌, false, List, [], ◌∷◌, ◌++◌, map, length, replicate}
use Rattle.shredding.specs.Slot.{Slot}
use Rattle.shredding.specs.Shape.{Way}
use Rattle.shredding.specs.Shred.{Triple, max_repetition, max_definition}
use Rattle.shredding.specs.Local.{inside}
use Rattle.read_laws.specs.State.{Kept, kept_way, leaf_count, StateFits}
use Rattle.read_laws.specs.Step.{bit, leaf_pushes, way_nullable, step, Ended, LeafGives}
use Rattle.read_laws.specs.Column.{kept_column}
use Rattle.read_laws.specs.Block.{Mark, block, walk, AllFit}

-- a pair of the column, which lies beneath no part
abbrev pub mark_of : Triple → Mark
mark_of t = record { repetition = t.repetition; definition = t.definition; hidden = false }

-- by how much a pair makes the leaf grow
abbrev pub leaf_grows : Way → Triple → ℕ
leaf_grows w t = bit (leaf_pushes t.repetition t.definition false 0 0 w)

-- the same for all of the pairs
abbrev pub leaves_grow : Way → List Triple → ℕ
leaves_grow w [] = 0
leaves_grow w (t ∷ ts) = leaf_grows w t + leaves_grow w ts

-- what the pairs give, at the leaf's next slots
abbrev pub GivesEach : Way → (ℕ → Slot) → ℕ → List Triple → Type 0
GivesEach w leaf place [] = Unit {0}
GivesEach w leaf place (t ∷ ts) = LeafGives (way_nullable w) t.definition (max_definition w) (leaf place) t.value × GivesEach w leaf (place + leaf_grows w t) ts

-- each pair may follow the one before it
abbrev pub FollowEach : Way → ℕ → List Triple → Type 0
FollowEach w before [] = Unit {0}
FollowEach w before (t ∷ ts) =
    (t.definition ≤ max_definition w) × ((t.repetition ≡ 0) ⊎ ((0 < t.repetition) × (t.repetition ≤ max_repetition w) × (inside w t.repetition ≤ before) × (inside w t.repetition ≤ t.definition))) × FollowEach w t.definition ts

-- the first pair begins a row or follows the last pair taken
abbrev pub Starts : ℕ → List Triple → List Kept → Type 0
Starts before [] ks = Unit {0}
Starts before (t ∷ ts) ks = (t.repetition ≡ 0) ⊎ Ended before 0 ks

-- the definition level of the last pair, or what is given where there is none
abbrev pub last_level : ℕ → List Triple → ℕ
last_level before [] = before
last_level before (t ∷ ts) = last_level t.definition ts

-- What pairs make of a state: it fits, its last slot ends at the last pair's definition level, the way to the leaf stays, the column has
-- their triples behind its own, the leaf has a slot more for each pair that pushes to it, and it is what the pairs make one by one.
pub record IsGrown (leaf : ℕ → Slot) (before : ℕ) (ks ks' : List Kept) (ts : List Triple) : Type 0 where
  pub fits : StateFits ks'
  pub ended : 0 < length ts → Ended (last_level before ts) 0 ks'
  pub way : kept_way ks' ≡ kept_way ks
  pub column : kept_column leaf ks' ≡ kept_column leaf ks ++ ts
  pub leaves : leaf_count ks' ≡ leaf_count ks + leaves_grow (kept_way ks) ts
  pub walked : ks' ≡ walk (map mark_of ts) ks

-- a block of pairs that may come, taken part by part, is appended to the column
abbrev pub BlocksExtendColumns : Type 0
BlocksExtendColumns =
    (leaf : ℕ → Slot) (before : ℕ) (ks : List Kept) (ts : List Triple) →
    StateFits ks → Starts before ts ks → FollowEach (kept_way ks) before ts → GivesEach (kept_way ks) leaf (leaf_count ks) ts →
    IsGrown leaf before ks (block (map mark_of ts) 0 0 ks) ts

-- each state on the way fits where the pairs may come
abbrev pub PairsFit : Type 0
PairsFit = (before : ℕ) (ks : List Kept) (ts : List Triple) → StateFits ks → Starts before ts ks → FollowEach (kept_way ks) before ts → AllFit (map mark_of ts) ks

-- equal pairs as a block are a step
abbrev pub StretchesAreBlocks : Type 0
StretchesAreBlocks =
    (m rep level : ℕ) (ks : List Kept) → AllFit (replicate m (record { repetition = rep; definition = level; hidden = false })) ks →
    step m rep level false 0 0 ks ≡ block (replicate m (record { repetition = rep; definition = level; hidden = false })) 0 0 ks
