-- Plain truth values, and what is decoded of them (Parquet format, Encodings, "Plain"; Arrow columnar format, "Fixed-Size Primitive Layout").
use Rattle.std.specs.Prelude.{◌≡◌, refl, ℕ, ◌*◌, ◌==◌, Bool, true, false, Some, List, [], ◌∷◌, ◌++◌, map, length, drop, if◌then◌else◌}
use Rattle.pq_numbers.specs.Bits.{unpacked}
use Rattle.shredding.specs.Slot.{truth, Slot, null, value}
use Rattle.read_walk.specs.Values.{Stored, ones}

-- All bits of the bytes but so many first ones, which were taken, as truth values. Where fewer are stored, the others are not called for.
abbrev pub plain_truths : List ℕ → ℕ → List Bool
plain_truths text bit = map (λ n. n == 1) (drop bit (unpacked 1 (8 * length text) text))

-- ten is 1010, and the lowest bit comes first
worked : plain_truths (10 ∷ []) 1 ≡ true ∷ false ∷ true ∷ false ∷ false ∷ false ∷ false ∷ []
worked = refl

abbrev pub stored_truths : List ℕ → ℕ → List Stored
stored_truths text bit = map (λ b. Some (truth b)) (plain_truths text bit)

-- truth values and which of them are there, as slots
abbrev pub truth_slots : List Bool → List Bool → List Slot
truth_slots (t ∷ ts) (b ∷ bs) = (if b then value (truth t) else null) ∷ truth_slots ts bs
truth_slots _ _ = []

-- a truth value for each bit: the next one where it is set, and false elsewhere
abbrev pub among_nulls : List Bool → List Bool → List Bool
among_nulls [] ts = []
among_nulls (false ∷ bs) ts = false ∷ among_nulls bs ts
among_nulls (true ∷ bs) [] = []
among_nulls (true ∷ bs) (t ∷ ts) = t ∷ among_nulls bs ts

-- so many truth values taken from the bits
pub record TookTruths (n : ℕ) (bytes : List ℕ) (bit : ℕ) (rest : List ℕ) (bit' : ℕ) (truths : List Bool) : Type 0 where
  pub count : length truths ≡ n
  pub taken : plain_truths bytes bit ≡ truths ++ plain_truths rest bit'

-- the truth values that are appended
pub record AddsTruths (n : ℕ) (bytes : List ℕ) (bit : ℕ) (rest : List ℕ) (bit' : ℕ) (old new : List Bool) : Type 0 where
  pub truths : List Bool
  pub took : TookTruths n bytes bit rest bit' truths
  pub pushed : new ≡ old ++ truths

-- a slot for each bit: the next truth value where it is set
pub record TookAmong (bits : List Bool) (bytes : List ℕ) (bit : ℕ) (rest : List ℕ) (bit' : ℕ) (word_truths : List Bool) : Type 0 where
  pub truths : List Bool
  pub took : TookTruths (ones bits) bytes bit rest bit' truths
  pub are : word_truths ≡ among_nulls bits truths
