-- Which pairs may follow one another (Dremel paper, section 4.3).
use Rattle.std.specs.Prelude.{◌≡◌, ◌⊎◌, ℕ, zero, suc, ◌<◌, ◌≤◌, Option, Some, None, List, [], ◌∷◌, ◌++◌, length, slice_index}
use Rattle.columns_base.specs.declared.error.Error.{Error}
use Rattle.columns_base.specs.declared.error.Error.TheVariants.{OutOfSpec}
use Rattle.columns_base.specs.declared.error.S.TheVariants.{S4, S5, S10}
use Rattle.shredding.specs.Shape.{Way}
use Rattle.shredding.specs.Shred.{max_definition, max_repetition}
use Rattle.shredding.specs.Local.{inside}
use Rattle.read_laws.specs.State.{Kept, kept_way}
use Rattle.read_laws.specs.Step.{Ended}
use Rattle.read_walk.specs.Pairs.{Pair}

-- the pairs of two runs of levels
abbrev pub zipped : List ℕ → List ℕ → List Pair
zipped (r ∷ rs) (d ∷ ds) = (r, d) ∷ zipped rs ds
zipped _ _ = []

-- the definition level of the last pair
abbrev pub last_level : Option ℕ → List Pair → Option ℕ
last_level before [] = before
last_level before (p ∷ ps) = last_level (Some p.1) ps

-- Behind a pair of a definition level: both lie inside the list that the pair repeats in. Where none was taken, it begins a row.
abbrev pub MayCome : Way → Option ℕ → Pair → Type 0
MayCome w None p = p.0 ≡ 0
MayCome w (Some before) p = (inside w p.0 ≤ before) × (inside w p.0 ≤ p.1)

abbrev pub Follows : Way → Option ℕ → List Pair → Type 0
Follows w before [] = Unit {0}
Follows w before (p ∷ ps) = (p.0 ≤ max_repetition w) × (p.1 ≤ max_definition w) × MayCome w before p × Follows w (Some p.1) ps

-- the last slot of a state ends at the level of the last pair
abbrev pub EndedAt : Option ℕ → List Kept → Type 0
EndedAt None ks = Unit {0}
EndedAt (Some level) ks = Ended level 0 ks

-- the greatest levels of a way, and the definition level from which pairs lie inside its innermost list
abbrev pub AreLevels : Way → ℕ → ℕ → ℕ → Type 0
AreLevels w lists top floor = (lists ≡ max_repetition w) × (top ≡ max_definition w) × (floor ≡ inside w lists) × (floor ≤ top)

-- ---- what is wrong with a pair

-- a level is above its greatest
abbrev pub IsPast : Way → Pair → Type 0
IsPast w p = (max_repetition w < p.0) ⊎ (max_definition w < p.1)

-- the pair, or the one before it, does not lie inside the list that the pair repeats in
abbrev pub IsOutside : Way → ℕ → Pair → Type 0
IsOutside w before p = (0 < p.0) × ((before < inside w p.0) ⊎ (p.1 < inside w p.0))

-- an error for which a pair may not come, with its cause
abbrev pub WhyNot : Way → Option ℕ → Pair → Error → Type 0
WhyNot w before p e =
    ((e ≡ OutOfSpec S4) × IsPast w p) ⊎ (((e ≡ OutOfSpec S5) × (before ≡ None) × (0 < p.0)) ⊎ ((e ≡ OutOfSpec S10) × ((level : ℕ) × (before ≡ Some level) × IsOutside w level p)))

-- one of the pairs may not come behind those before it
pub record OneMayNot (w : Way) (before : Option ℕ) (ps : List Pair) (e : Error) : Type 0 where
  pub front : List Pair
  pub pair : Pair
  pub back : List Pair
  pub parts : ps ≡ front ++ (pair ∷ back)
  pub why : WhyNot w (last_level before front) pair e

-- the definition level of the pair before that at a place
abbrev pub level_before : Option ℕ → List ℕ → ℕ → Option ℕ
level_before before defs zero = before
level_before before defs (suc k) = Some (slice_index defs k)

-- there was a pair, inside the innermost list
abbrev pub IsInside : ℕ → Option ℕ → Type 0
IsInside floor None = ⊥
IsInside floor (Some level) = floor ≤ level

-- the pair at a place may come behind that before it
abbrev pub MayComeAt : Way → Option ℕ → List ℕ → List ℕ → ℕ → Type 0
MayComeAt w before reps defs k = MayCome w (level_before before defs k) (slice_index reps k, slice_index defs k)

-- no level is above its greatest, and each pair begins a row, or it and the one before it lie inside the innermost list
abbrev pub PlainlyFollow : Option ℕ → List ℕ → List ℕ → ℕ → ℕ → ℕ → Type 0
PlainlyFollow before reps defs lists top floor =
    (k : ℕ) → k < length reps → (slice_index reps k ≤ lists) × (slice_index defs k ≤ top) × ((slice_index reps k ≡ 0) ⊎ ((floor ≤ slice_index defs k) × IsInside floor (level_before before defs k)))

-- 64 pairs may come, to a state of fewer parts, and no level is above 255
pub record MayTake (ks : List Kept) (top : ℕ) (before : Option ℕ) (reps defs : List ℕ) : Type 0 where
  pub rep_size : length reps ≡ 64
  pub def_size : length defs ≡ 64
  pub few : length ks < 64
  pub low : top ≤ 255
  pub follow : Follows (kept_way ks) before (zipped reps defs)
