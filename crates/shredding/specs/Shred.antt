-- Shredding: a list of slots as the columns of its leaves (Dremel paper, section 4.1, "Repetition and Definition Levels",
-- and 4.2, "Splitting Records into Columns"; Parquet format, "Nested Encoding").
use Rattle.std.specs.Prelude.{ℕ, suc, Bool, true, false, Option, Some, None, List, [], ◌∷◌, ◌++◌, map, flat_map}
use Rattle.shredding.specs.Slot.{Value, Slot, value, items, fields, Slots, no_slots, slot, list_of, slot_at}
use Rattle.shredding.specs.Shape.{Shape, struct, Shapes, Way, at_leaf, in_list, in_struct, ways}

-- One entry of a column: at which list it repeats, how many of its optional and repeated nodes are there, and the value where all are.
pub record Triple : Type 0 where
  pub repetition : ℕ
  pub definition : ℕ
  pub value : Option Value

-- one level more where the part is nullable
abbrev pub up : Bool → ℕ → ℕ
up true d = suc d
up false d = d

-- a list of one triple
abbrev pub single : ℕ → ℕ → Option Value → List Triple
single r d v = record { repetition = r; definition = d; value = v } ∷ []

-- The triples of a slot along a way: the first one has repetition r, d levels are defined so far, and k lists lie above.
-- A slot that does not fit the way, as a value where the way goes on through a list, counts as null. No slot of a field does so along
-- the ways of that field, and with it the laws on joining, counting and splitting need no premise.
unfoldable pub shred : Way → Slot → ℕ → ℕ → ℕ → List Triple
shred (at_leaf n) (value v) r d k = single r (up n d) (Some v)
shred (in_struct n i w) (fields ss) r d k = shred w (slot_at ss i) r (up n d) k
shred (in_list n w) (items no_slots) r d k = single r (up n d) None
shred (in_list n w) (items (slot s ss)) r d k =
    shred w s r (suc (up n d)) (suc k) ++ flat_map (λ t. shred w t (suc k) (suc (up n d)) (suc k)) (list_of ss)
shred _ _ r d k = single r d None

-- the column of rows: the triples of each row, one row after another
abbrev pub column : Way → List Slot → List Triple
column w rows = flat_map (λ s. shred w s 0 0 0) rows

-- the columns of a field, in the order of its leaves
abbrev pub columns : Shape → List Slot → List (List Triple)
columns f rows = map (λ w. column w rows) (ways f)

-- Rows of a schema have a slot for each field: they are the slots of a required struct of the fields.
abbrev pub schema_columns : Shapes → List Slots → List (List Triple)
schema_columns fs rows = columns (struct false fs) (map fields rows)

-- the number of lists on the way
abbrev pub max_repetition : Way → ℕ
max_repetition (at_leaf n) = 0
max_repetition (in_list n w) = suc (max_repetition w)
max_repetition (in_struct n i w) = max_repetition w

-- the number of lists and nullable parts on the way
abbrev pub max_definition : Way → ℕ
max_definition (at_leaf n) = up n 0
max_definition (in_list n w) = up n (suc (max_definition w))
max_definition (in_struct n i w) = up n (max_definition w)
