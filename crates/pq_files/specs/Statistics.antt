-- Statistics of a page or a chunk (Parquet format, parquet.thrift: Statistics, ColumnOrder).
use Rattle.std.specs.Prelude.{◌≡◌, ℕ, ◌<◌, ◌≤ℤ◌, List, [], ◌∷◌, ◌⊎◌, All, Contains, count_by, Option, Some, None, is_none, Bool, true, false}
use Rattle.shredding.specs.Slot.{Value, truth, number, bytes}
use Rattle.shredding.specs.Shape.{LeafType, nothing, months, days}
use Rattle.shredding.specs.Shred.{Triple}
use Rattle.pq_tree.specs.Physical.{Physical, boolean, byte_array}
use Rattle.pq_files.specs.Plain.{IsOne}
use Rattle.pq_files.specs.Stored.{IsStored}

pub record Bounds : Type 0 where
  pub least : List ℕ
  pub greatest : List ℕ

pub record Statistics : Type 0 where
  pub null_count : ℕ
  pub bounds : Option Bounds

-- ---- orders

abbrev pub IsBefore : List ℕ → List ℕ → Type 0
IsBefore [] t = Unit {0}
IsBefore (a ∷ s) [] = ⊥
IsBefore (a ∷ s) (b ∷ t) = (a < b) ⊎ ((a ≡ b) × IsBefore s t)

abbrev pub IsImplied : Bool → Bool → Type 0
IsImplied false c = Unit {0}
IsImplied true c = c ≡ true

-- numbers as numbers, false before true, bytes as lists
abbrev pub IsUpTo : Value → Value → Type 0
IsUpTo (truth b) (truth c) = IsImplied b c
IsUpTo (number y) (number z) = y ≤ℤ z
IsUpTo (bytes s) (bytes t) = IsBefore s t
IsUpTo _ _ = ⊥

abbrev pub has_order : LeafType → Bool
has_order nothing = false
has_order months = false
has_order days = false
has_order _ = true

-- ---- bounds

-- plain, without a length, and a truth value as a byte
abbrev pub IsBoundText : Physical → List ℕ → Value → Type 0
IsBoundText boolean s (truth true) = s ≡ 1 ∷ []
IsBoundText boolean s (truth false) = s ≡ 0 ∷ []
IsBoundText byte_array s (bytes t) = s ≡ t
IsBoundText p s v = IsOne p s v

pub record IsBound (t : LeafType) (p : Physical) (s : List ℕ) (v : Value) : Type 0 where
  pub stored : Value
  pub is_stored : IsStored t p v stored
  pub spells : IsBoundText p s stored

-- the least and the greatest of the values
pub record AreBounds (t : LeafType) (p : Physical) (b : Bounds) (vs : List Value) : Type 0 where
  pub low : Value
  pub has_low : Contains vs low
  pub is_low : All (λ v. IsUpTo low v) vs
  pub low_text : IsBound t p b.least low
  pub high : Value
  pub has_high : Contains vs high
  pub is_high : All (λ v. IsUpTo v high) vs
  pub high_text : IsBound t p b.greatest high

-- Bounds stand where there is a value and the type has an order.
abbrev pub HasBounds : LeafType → Physical → Bool → Option Bounds → List Value → Type 0
HasBounds t p true (Some b) (v ∷ vs) = AreBounds t p b (v ∷ vs)
HasBounds t p true None [] = Unit {0}
HasBounds t p false None vs = Unit {0}
HasBounds t p _ _ _ = ⊥

-- of triples whose values, or whose entries where the column has them, are these
pub record AreStatistics (t : LeafType) (p : Physical) (st : Statistics) (ts : List Triple) (vs : List Value) : Type 0 where
  pub null_count : st.null_count ≡ count_by (λ x. is_none x.value) ts
  pub bounds : HasBounds t p (has_order t) st.bounds vs

-- exactly where they are asked for
abbrev pub HasStatistics : Bool → LeafType → Physical → Option Statistics → List Triple → List Value → Type 0
HasStatistics true t p (Some st) ts vs = AreStatistics t p st ts vs
HasStatistics false t p None ts vs = Unit {0}
HasStatistics _ t p _ ts vs = ⊥
