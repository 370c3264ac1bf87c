-- Places that never fall, by two of them.
use Rattle.std.proofs.Common.{ℕ, zero, suc, ◌<◌, ◌≤◌, List, [], ◌∷◌, length, arith}
use Rattle.std.specs.Prelude.{slice_index}
use Rattle.columns_core.specs.Rising.{RisesFrom, IsRising}

rises_from : (o : ℕ) (os : List ℕ) (i : ℕ) → RisesFrom o os → i < length os → o ≤ slice_index os i
rises_from o [] i h l = absurd (omega arith)
rises_from o (p ∷ os) zero h l = h.0
rises_from o (p ∷ os) (suc i) h l = let below = rises_from p os i h.1 (omega arith) in omega (arith, h.0, below)

rising_from : (o : ℕ) (os : List ℕ) (i j : ℕ) → RisesFrom o os → i ≤ j → j < length os → slice_index os i ≤ slice_index os j
rising_from o [] i j h l m = absurd (omega arith)
rising_from o (p ∷ os) zero zero h l m = omega arith
rising_from o (p ∷ os) zero (suc j) h l m = rises_from p os j h.1 (omega arith)
rising_from o (p ∷ os) (suc i) zero h l m = absurd (omega arith)
rising_from o (p ∷ os) (suc i) (suc j) h l m = rising_from p os i j h.1 (omega arith) (omega arith)

pub rising : (os : List ℕ) (i j : ℕ) → IsRising os → i ≤ j → j < length os → slice_index os i ≤ slice_index os j
rising [] i j h l m = absurd h
rising (o ∷ os) zero zero h l m = omega arith
rising (o ∷ os) zero (suc j) h l m = rises_from o os j h (omega arith)
rising (o ∷ os) (suc i) zero h l m = absurd (omega arith)
rising (o ∷ os) (suc i) (suc j) h l m = rising_from o os i j h (omega arith) (omega arith)
