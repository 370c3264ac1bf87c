-- A column by its levels and its present values (Dremel, "Nested columnar storage"; Parquet format, "Nested encoding").
use Rattle.std.specs.Prelude.{◌≡◌, ℕ, ◌≤◌, Bool, true, false, nat_eq, List, [], ◌∷◌, length, All, count_by, Option, Some, None}
use Rattle.shredding.specs.Slot.{Value}
use Rattle.shredding.specs.Shred.{Triple}

-- the next value, where one is called for
abbrev pub value_if : Bool → List Value → Option Value
value_if false vs = None
value_if true [] = None
value_if true (v ∷ vs) = Some v

-- the values behind it
abbrev pub left_if : Bool → List Value → List Value
left_if false vs = vs
left_if true [] = []
left_if true (v ∷ vs) = vs

-- The triples of a column whose greatest definition level is `max`: each pair of levels at that level takes the next value.
abbrev pub triples_from : ℕ → List ℕ → List ℕ → List Value → List Triple
triples_from max (r ∷ rs) (d ∷ ds) vs = record { repetition = r; definition = d; value = value_if (nat_eq d max) vs } ∷ triples_from max rs ds (left_if (nat_eq d max) vs)
triples_from max [] ds vs = []
triples_from max (r ∷ rs) [] vs = []

-- nothing, or a row begins
abbrev pub BeginsAtZero : List ℕ → Type 0
BeginsAtZero [] = Unit {0}
BeginsAtZero (r ∷ rs) = r ≡ 0

-- The levels are pairs within their greatest levels, of which the first begins a row, and call for so many values.
pub record ArePairs (max_repetition max_definition : ℕ) (repetitions definitions : List ℕ) (count : ℕ) : Type 0 where
  pub even : length repetitions ≡ length definitions
  pub repeated : All (λ r. r ≤ max_repetition) repetitions
  pub defined : All (λ d. d ≤ max_definition) definitions
  pub present : count_by (λ d. nat_eq d max_definition) definitions ≡ count
  pub begins : BeginsAtZero repetitions
