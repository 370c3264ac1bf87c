-- What slots side by side reach.
use Rattle.std.specs.Prelude.{◌≡◌, ℕ, ◌+◌, ◌-◌, ◌^◌, ◌<◌, ◌≤◌, Bool, true, false, List, [], ◌∷◌, length}
use Rattle.shredding.specs.Parts.{Part, IsPath, slot_count, item_start, item_count, item_span}
use Rattle.levels.specs.Nested.{parts_of}
use Rattle.levels.specs.Ranges.{leaf_count_or}
use Rattle.write_places.specs.declared.reach.Foot.{Foot}
use Rattle.write_places.specs.declared.reach.Foot.TheVariants.{Leaf, ListOf, LargeListOf}
use Rattle.write_places.specs.declared.reach.Reach.{Reach}
use Rattle.write_places.specs.declared.reach.Reach.TheVariants.{Nothing, Leaves, Picked, Below}
use Rattle.write_places.specs.Places.{gather, range, picked, slot_places}
use Rattle.write_places.specs.There.{is_there, there_places}

-- ---- the leaf or list behind the structs in front of a path

-- of a list with these offsets above the rest
abbrev pub IsListFoot : List Part → ℕ → List ℕ → List Part → ℕ → Type 0
IsListFoot parts count offsets rest few =
    ((i : ℕ) → there_places parts i ≡ gather (slot_places rest) (item_start offsets i) (item_count offsets i))
    × (slot_count parts ≡ length offsets - 1)
    × (slot_count rest ≡ item_span offsets)
    × IsPath rest
    × (few < count)
    × (leaf_count_or 0 rest ≡ leaf_count_or 0 parts)

-- of a path of count parts
abbrev pub IsFoot : List Part → ℕ → Foot → Type 0
IsFoot parts count Leaf = ((i : ℕ) → there_places parts i ≡ i ∷ []) × (slot_count parts ≤ leaf_count_or 0 parts)
IsFoot parts count (ListOf list rest) = IsListFoot parts count list.now.offsets (parts_of rest.now) (length rest.now)
IsFoot parts count (LargeListOf list rest) = IsListFoot parts count list.now.offsets (parts_of rest.now) (length rest.now)

-- ---- slots from a place on

abbrev pub reach_end : Reach → ℕ
reach_end (Nothing end) = end
reach_end (Leaves end) = end
reach_end (Picked word end) = end
reach_end (Below rest from to end) = end

abbrev pub reached : ℕ → Reach → List ℕ
reached place (Nothing end) = []
reached place (Leaves end) = range place (end - place)
reached place (Picked word end) = picked word place (end - place)
reached place (Below rest from to end) = gather (slot_places (parts_of rest.now)) from (to - from)

-- what lies beneath has the places named
abbrev pub ReachFits : List Part → ℕ → ℕ → Reach → Type 0
ReachFits parts count place (Nothing end) = Unit {0}
ReachFits parts count place (Leaves end) = end ≤ leaf_count_or 0 parts
ReachFits parts count place (Picked word end) = (end ≤ leaf_count_or 0 parts) × (end ≤ place + 64) × (word < 2 ^ (end - place))
ReachFits parts count place (Below rest from to end) =
    (from ≤ to) × (to ≤ slot_count (parts_of rest.now)) × IsPath (parts_of rest.now) × (length rest.now < count) × (leaf_count_or 0 (parts_of rest.now) ≡ leaf_count_or 0 parts)

-- what slots of a path of count parts from a place on reach, at most to the last one
pub record IsReach (parts : List Part) (count place last : ℕ) (reach : Reach) : Type 0 where
  pub after : place < reach_end reach
  pub before : reach_end reach ≤ last
  pub fits : ReachFits parts count place reach
  pub places : gather (slot_places parts) place (reach_end reach - place) ≡ reached place reach

-- ---- runs of slots that are there

-- from a place on slots are not there until start, and from there on they are until end
pub record IsRun (at : ℕ → Bool) (place last start end : ℕ) : Type 0 where
  pub before : place ≤ start
  pub ordered : start ≤ end
  pub after : place < end
  pub within : end ≤ last
  pub gap : (i : ℕ) → place ≤ i → i < start → at i ≡ false
  pub run : (i : ℕ) → start ≤ i → i < end → at i ≡ true

-- the lists from a place on to another are there or have no items
abbrev pub AreClosed : List Part → List ℕ → ℕ → ℕ → Type 0
AreClosed parts offsets place end = (i : ℕ) → place ≤ i → i < end → is_there parts i ≡ false → item_start offsets i ≡ item_start offsets (i + 1)

-- the items of lists from a place on to a later one, which is at most the last one, lie side by side
pub record IsRange (parts rest : List Part) (span place last first behind end : ℕ) : Type 0 where
  pub after : place < end
  pub within : end ≤ last
  pub ordered : first ≤ behind
  pub spanned : behind ≤ span
  pub places : gather (slot_places parts) place (end - place) ≡ gather (slot_places rest) first (behind - first)
