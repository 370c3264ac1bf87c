-- The entries of a dictionary, and values as plain bytes, by their indices too (Parquet format, "Dictionary Page"; Encodings, "Dictionary Encoding").
use Rattle.std.specs.Prelude.{◌≡◌, ◌⊎◌, ℕ, ◌-◌, ◌*◌, ◌<◌, ◌≤◌, true, false, Option, Some, None, Ok, Err, List, [], ◌∷◌, ◌++◌, map, flat_map, length, take, drop, cond, nat_le, slice_get}
use Rattle.std.specs.List.{AllZip}
use Rattle.columns_base.specs.declared.error.Error.{Error}
use Rattle.columns_base.specs.declared.error.Error.TheVariants.{OutOfSpec}
use Rattle.columns_base.specs.declared.error.S.TheVariants.{S6, S7}
use Rattle.shredding.specs.Slot.{Value}
use Rattle.pq_files.specs.Page.{Encoding, plain, dictionary, delta, delta_length}
use Rattle.pq_files.specs.Plain.{IsPlain}
use Rattle.pq_runs.specs.Hybrid.{Item as Index, given, hybrid}
use Rattle.pq_tree.specs.Physical.{Physical}
use Rattle.read_pieces.specs.Leaves.{AreEights, IsValue, in_bytes}
use Rattle.read_walk.specs.Values.{Stored}
use Rattle.read_column.specs.Deltas.{AreTurned}
use Rattle.read_column.specs.declared.deltas.Deltas.{Deltas}
use Rattle.read_column.specs.declared.entries.Place.{Place}

-- ---- entries

-- the bytes of each entry
abbrev pub Texts : Type 0
Texts = List (List ℕ)

abbrev pub all_of : Texts → List ℕ
all_of texts = flat_map (λ t. t) texts

-- the bytes at a place
abbrev pub text_at : List ℕ → Place → List ℕ
text_at body p = take (p.end - p.start) (drop p.start body)

-- it lies in so many bytes
abbrev pub IsPlaceIn : ℕ → Place → Type 0
IsPlaceIn n p = (p.start ≤ p.end) × (p.end ≤ n)

-- the body begins with so many values, each of which stands in its text
pub record AreTextsIn (stored : List ℕ → List Stored) (n : ℕ) (body : List ℕ) (texts : Texts) : Type 0 where
  pub count : length texts ≡ n
  pub values : List Value
  pub are : AllZip (IsValue stored) texts values
  pub rest : List ℕ
  pub parts : body ≡ all_of texts ++ rest

-- The body has so many entries. Where values stand in bytes of their own, these are their texts.
pub record HoldsEntries (stored : List ℕ → List Stored) (n : ℕ) (body : List ℕ) (texts : Texts) : Type 0 where
  pub own : in_bytes stored ≡ true → AreTextsIn stored n body texts
  pub bits : in_bytes stored ≡ false → AreEights stored body × (n ≤ 8 * length body)

-- one of the first so many values is outside of the leaf's type
pub record HasOutside (stored : List ℕ → List Stored) (n : ℕ) (body : List ℕ) : Type 0 where
  pub front : List Value
  pub rest : List Stored
  pub parts : stored body ≡ map Some front ++ None ∷ rest
  pub few : length front < n

-- an error for which the body has not so many entries, with its cause: it is cut, or one is outside of the leaf's type
abbrev pub CannotHold : (List ℕ → List Stored) → ℕ → List ℕ → Error → Type 0
CannotHold stored n body e = ((e ≡ OutOfSpec S6) × (length (stored body) < n)) ⊎ ((e ≡ OutOfSpec S7) × HasOutside stored n body)

-- an entry's text, by the value that is stored in it
pub record IsEntry (stored : List ℕ → List Stored) (p : Physical) (text : List ℕ) (e : Value) : Type 0 where
  pub «value» : Value
  pub is : IsValue stored text «value»
  pub one : IsPlain p text (e ∷ [])

-- the texts that are held of a column's entries
abbrev pub AreTextsOf : (List ℕ → List Stored) → Physical → Option Texts → Option (List Value) → Type 0
AreTextsOf stored p None None = Unit {0}
AreTextsOf stored p (Some texts) (Some es) = in_bytes stored ≡ true → AllZip (IsEntry stored p) texts es
AreTextsOf stored p _ _ = ⊥

-- ---- indices

-- nothing is left, no index can be read, or it is past the entries
abbrev pub StopsAt : Texts → List Index → Type 0
StopsAt texts [] = Unit {0}
StopsAt texts (Ok n ∷ is) = length texts ≤ n
StopsAt texts (Err e ∷ is) = Unit {0}

-- The entries at the indices from the front on, one behind the other, as far as there are some.
pub record IsLaid (texts : Texts) (items : List Index) (values : List ℕ) : Type 0 where
  pub indices : List ℕ
  pub rest : List Index
  pub read : items ≡ given indices ++ rest
  pub stops : StopsAt texts rest
  pub parts : Texts
  pub are : AllZip (λ n t. slice_get texts n ≡ Some t) indices parts
  pub spelled : values ≡ all_of parts

-- so many indices of a section: a byte with their width, and runs
abbrev pub indices_in : ℕ → List ℕ → List Index
indices_in n [] = []
indices_in n (w ∷ runs) = cond (nat_le w 32) (hybrid w n runs) []

-- ---- a page's values

-- what the values of a column's pages are told by, where they do not stand plain: the entries of its dictionary page, and its deltas
pub record Means : Type 0 where
  pub entries : Option Texts
  pub deltas : Deltas

abbrev pub means : Option Texts → Deltas → Means
means d k = record { entries = d; deltas = k }

-- The values of a section of so many pairs, of which so many have a value, as plain bytes: as they stand, the entries at its indices, or what its
-- deltas make.
abbrev pub HasValues : Means → Encoding → ℕ → ℕ → List ℕ → List ℕ → Type 0
HasValues m plain pairs present section values = values ≡ section
HasValues m dictionary pairs present section values = (texts : Texts) × (m.entries ≡ Some texts) × IsLaid texts (indices_in pairs section) values
HasValues m delta pairs present section values = AreTurned m.deltas present section values
HasValues m delta_length pairs present section values = AreTurned m.deltas present section values
