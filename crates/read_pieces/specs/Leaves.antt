-- How the values of a leaf are read from the plain bytes of a page (Parquet format, Encodings, "Plain"; LogicalTypes).
use Rattle.std.specs.Prelude.{◌≡◌, ℕ, ◌*◌, ◌<◌, ◌≤◌, Bool, Some, None, List, [], ◌∷◌, ◌++◌, length, map, take, nat_lt, All, sum_by}
use Rattle.std.specs.List.{AllZip}
use Rattle.shredding.specs.Slot.{Value}
use Rattle.columns_core.specs.Shapes.{leaf_type}
use Rattle.pq_files.specs.PageReasons.{IsOutside}
use Rattle.pq_files.specs.Plain.{IsPlain}
use Rattle.pq_files.specs.Stored.{IsStored}
use Rattle.pq_numbers.specs.Texts.{Begins}
use Rattle.pq_tree.specs.Physical.{Physical}
use Rattle.read_walk.specs.Values.{Stored}
use Rattle.shredding.specs.Shape.{LeafType}
use Rattle.pq_headline.specs.Columns.{ArrowColumn}
use Rattle.pq_headline.specs.FieldReasons.{PassesTexts, text_size}

-- what is loaded for a stored value: the value of the leaf type that it stores, and none where it stores none
abbrev pub IsLoaded : LeafType → Physical → Stored → Value → Type 0
IsLoaded t p (Some v) s = IsStored t p v s
IsLoaded t p None s = IsOutside t p s

-- The stored values of bytes, as they are loaded: as many as the plain encoding spells at their front, each loaded.
pub record ReadsPlain (t : LeafType) (p : Physical) (stored : List ℕ → List Stored) : Type 0 where
  pub spelled : (text : List ℕ) (n : ℕ) → n ≤ length (stored text) → (ss : List Value) × Begins (IsPlain p) text ss × AllZip (IsLoaded t p) (take n (stored text)) ss
  pub read : (text : List ℕ) (ss : List Value) → Begins (IsPlain p) text ss → (length ss ≤ length (stored text)) × AllZip (IsLoaded t p) (take (length ss) (stored text)) ss

-- Values of a column are read so: and where as many bytes of them as the limit says are too many, they pass the offsets of the column's type. A
-- limit of 0 is none.
pub record ReadsLeaf (c : ArrowColumn) (p : Physical) (stored : List ℕ → List Stored) (limit : ℕ) : Type 0 where
  pub plain : ReadsPlain (leaf_type c.data_type) p stored
  pub unique : (v w s : Value) → IsStored (leaf_type c.data_type) p v s → IsStored (leaf_type c.data_type) p w s → v ≡ w
  pub limited : (vs : List Value) → All (λ v. (s : Value) × IsStored (leaf_type c.data_type) p v s) vs → 0 < limit → limit ≤ sum_by text_size vs → PassesTexts c.data_type vs

-- ---- values one by one

-- Each value stands in bytes of its own, so that a byte holds no two of them.
abbrev pub in_bytes : (List ℕ → List Stored) → Bool
in_bytes stored = nat_lt (length (stored (0 ∷ []))) 2

-- a byte is eight values, whatever it is
pub record AreEights (stored : List ℕ → List Stored) (text : List ℕ) : Type 0 where
  pub values : List Value
  pub are : stored text ≡ map Some values
  pub count : length values ≡ 8 * length text

-- The text is the value, whatever stands behind it, and no value stands in less of it.
pub record IsValue (stored : List ℕ → List Stored) (text : List ℕ) (v : Value) : Type 0 where
  pub is : (rest : List ℕ) → stored (text ++ rest) ≡ Some v ∷ stored rest
  pub least : (n : ℕ) → n < length text → stored (take n text) ≡ []

-- so many bytes at the front are a value
pub record BeginsWithValue (stored : List ℕ → List Stored) (n : ℕ) (text : List ℕ) : Type 0 where
  pub within : n ≤ length text
  pub «value» : Value
  pub is : IsValue stored (take n text) «value»

-- at the front stands what is no value of the leaf's type
abbrev pub BeginsOutside : (List ℕ → List Stored) → List ℕ → Type 0
BeginsOutside stored text = (rest : List Stored) × (stored text ≡ None ∷ rest)
