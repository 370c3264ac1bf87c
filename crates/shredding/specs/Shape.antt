-- The shape of a field: what is left of it when names, maps, dictionaries and extensions are forgotten.
-- It says which slots are the field's own, and has the ways to its leaves.
-- A node is required, optional or repeated (Dremel paper, section 3; Parquet format, "Nested Encoding"): a list here is a repeated
-- node, optional or required as a whole.
use Rattle.std.specs.Prelude.{◌≡◌, ℕ, ℤ, zero, suc, ◌^◌, ◌<◌, pos, negsuc, ◌-◌, Bool, IsTrue, IsUtf8, List, [], ◌∷◌, ◌++◌, map, length, take, drop, replicate, All}
use Rattle.shredding.specs.Slot.{Value, truth, number, bytes, Slot, null, value, items, fields, Slots, no_slots, slot, list_of}

-- The type of a leaf by its values (Arrow columnar format, "Data Types"; Parquet format, LogicalTypes).
-- Dates, times, timestamps and durations are signed numbers of their width.
-- An interval is its 12 stored bytes: months, days and milliseconds, four bytes each (Parquet format, "INTERVAL").
-- A leaf of the type Null has no value at all.
pub data LeafType : Type 0 where
  nothing truths text binary : LeafType
  signed : ℕ → LeafType
  unsigned : ℕ → LeafType
  fixed_bytes : ℕ → LeafType
  decimal : LeafType
  months days : LeafType

mutual
  -- the truth value says whether the node is nullable
  pub data Shape : Type 0 where
    leaf : Bool → LeafType → Shape
    list : Bool → Shape → Shape
    struct : Bool → Shapes → Shape

  pub data Shapes : Type 0 where
    no_shapes : Shapes
    shape : Shape → Shapes → Shapes

-- a signed number of w bits, in two's complement
abbrev pub Fits : ℕ → ℤ → Type 0
Fits w (pos n) = n < 2 ^ (w - 1)
Fits w (negsuc n) = n < 2 ^ (w - 1)

-- The value is one of the leaf type. A decimal has 128 bits, whatever its precision.
-- Of an interval of months the days and milliseconds are zero, of one of days the months are.
abbrev pub IsInRange : LeafType → Value → Type 0
IsInRange truths (truth b) = Unit {0}
IsInRange (signed w) (number z) = Fits w z
IsInRange (unsigned w) (number (pos n)) = n < 2 ^ w
IsInRange decimal (number z) = Fits 128 z
IsInRange text (bytes bs) = IsUtf8 bs
IsInRange binary (bytes bs) = Unit {0}
IsInRange (fixed_bytes n) (bytes bs) = length bs ≡ n
IsInRange months (bytes bs) = (length bs ≡ 12) × (drop 4 bs ≡ replicate 8 0)
IsInRange days (bytes bs) = (length bs ≡ 12) × (take 4 bs ≡ replicate 4 0)
IsInRange _ _ = ⊥

-- The slot is one of the field: null only where that is allowed, values in their range, one slot for each field of a struct.
abbrev mutual
  pub IsOf : Shape → Slot → Type 0
  IsOf (leaf n k) null = IsTrue n
  IsOf (leaf n k) (value v) = IsInRange k v
  IsOf (list n f) null = IsTrue n
  IsOf (list n f) (items ss) = All (IsOf f) (list_of ss)
  IsOf (struct n fs) null = IsTrue n
  IsOf (struct n fs) (fields ss) = AreOf fs ss
  IsOf _ _ = ⊥

  pub AreOf : Shapes → Slots → Type 0
  AreOf no_shapes no_slots = Unit {0}
  AreOf (shape f fs) (slot s ss) = IsOf f s × AreOf fs ss
  AreOf _ _ = ⊥

-- No struct of the field is without fields. Of a struct without fields no column tells whether it is null.
abbrev mutual
  pub HasNoEmptyStruct : Shape → Type 0
  HasNoEmptyStruct (leaf n k) = Unit {0}
  HasNoEmptyStruct (list n f) = HasNoEmptyStruct f
  HasNoEmptyStruct (struct n no_shapes) = ⊥
  HasNoEmptyStruct (struct n (shape f fs)) = HasNoEmptyStruct f × HaveNoEmptyStruct fs

  pub HaveNoEmptyStruct : Shapes → Type 0
  HaveNoEmptyStruct no_shapes = Unit {0}
  HaveNoEmptyStruct (shape f fs) = HasNoEmptyStruct f × HaveNoEmptyStruct fs

-- The way to one leaf: at each part, whether it is nullable, and at a struct the position of the child.
pub data Way : Type 0 where
  at_leaf : Bool → Way
  in_list : Bool → Way → Way
  in_struct : Bool → ℕ → Way → Way

-- the way to a leaf of a struct's children, as the child's position and the way from there
abbrev pub one_on : ℕ × Way → ℕ × Way
one_on p = (suc p.0, p.1)

-- the ways to the leaves, in order
abbrev mutual
  pub ways : Shape → List Way
  ways (leaf n k) = at_leaf n ∷ []
  ways (list n f) = map (in_list n) (ways f)
  ways (struct n fs) = map (λ p. in_struct n p.0 p.1) (ways_of fs)

  pub ways_of : Shapes → List (ℕ × Way)
  ways_of no_shapes = []
  ways_of (shape f fs) = map (λ w. (zero, w)) (ways f) ++ map one_on (ways_of fs)
