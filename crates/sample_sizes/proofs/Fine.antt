-- What is known of the sample's columns and leaves.
use Rattle.std.proofs.Common.{ℕ, zero, suc, ◌*◌, ◌≤◌, List, [], ◌∷◌, length, map, take, drop, Some, sum_by, ap, arith}
use Rattle.std.specs.List.{AllByRecursion}
use Rattle.std.proofs.lemmas.List.{length-drop, length-take}
use Rattle.std.proofs.lemmas.List.Elements.{All-drop, All-from_recursion, All-take, recursion_from_All}
use Rattle.shredding.specs.Cut.{cut, pieces}
use Rattle.shredding.specs.Shred.{Triple, column}
use Rattle.shredding.specs.Slot.{Slot, Slots, Value, fields}
use Rattle.columns_core.specs.Shapes.{leaf_type}
use Rattle.pq_files.specs.Layout.{plain_size}
use Rattle.pq_files.specs.Page.{values_in}
use Rattle.pq_files.specs.Room.{name_room}
use Rattle.pq_files.specs.Stored.{AreStored}
use Rattle.pq_headline.specs.Columns.{ArrowColumn, schema_columns}
use Rattle.pq_headline.specs.FieldReasons.{PassesTexts, text_size}
use Rattle.pq_tree.specs.Tree.{Leaf, columns_of}
use Rattle.sample_rows.specs.Fields.{sample_fields}
use Rattle.sample_sizes.proofs.Pages.{IsLow}
use Rattle.sample_sizes.proofs.Slim.{IsSlim, IsSlot, rows_few, slim_ids, slim_items, slim_tags}
use Rattle.sample_sizes.proofs.Stored.{IsLight, light_int32, light_int64, light_text, stored_light, stored_long}
use Rattle.sample_sizes.specs.Rows.{IsRow}
use Rattle.schema_to_tree.specs.Table.{schema_of}

pub record IsFine (c : ArrowColumn) (l : Leaf) : Type 0 where
  pub slim : IsSlim c.way
  pub light : IsLight (leaf_type c.data_type) l.physical
  pub low : IsLow l
  pub limits : AllByRecursion (λ n. 3000000 ≤ n) c.limits
  pub texts : (vs : List Value) → PassesTexts c.data_type vs → 2147483647 ≤ sum_by text_size vs
  pub names : sum_by name_room (map (λ i. i.name) l.path) ≤ 100

abbrev pub AreFine : List ArrowColumn → List Leaf → Type 0
AreFine [] [] = Unit {0}
AreFine (c ∷ cs) (l ∷ ls) = IsFine c l × AreFine cs ls
AreFine _ _ = ⊥

pub are_fine : AreFine (schema_columns sample_fields) (columns_of (schema_of sample_fields))
are_fine = (
  record { slim = slim_ids; light = light_int64; low = record { definition = omega arith; repetition = omega arith }; limits = tt; texts = λ vs h. absurd h; names = omega arith },
  (
    record { slim = slim_tags; light = light_text; low = record { definition = omega arith; repetition = omega arith }; limits = tt; texts = λ vs h. omega (arith, h); names = omega arith },
    (record { slim = slim_items; light = light_int32; low = record { definition = omega arith; repetition = omega arith }; limits = (omega arith, tt); texts = λ vs h. absurd h; names = omega arith }, tt),
  ),
)

-- ---- rows as slots
pub as_slots : (rows : List Slots) → AllByRecursion IsRow rows → AllByRecursion IsSlot (map fields rows)
as_slots [] h = tt
as_slots (r ∷ rs) h = (record { place = h.0.place; small = h.0.small; is = ap fields h.0.is }, as_slots rs h.1)

-- ---- a stored column of some rows
pub record IsSmall (p : List Triple → ℕ) (rows : ℕ) (stored : List Triple) : Type 0 where
  pub short : length stored ≤ 3 * rows
  pub light : p stored ≤ 24 * rows

pub column_small : (c : ArrowColumn) (l : Leaf) (ss : List Slot) (stored : List Triple) → IsFine c l → AllByRecursion IsSlot ss → AreStored (leaf_type c.data_type) l.physical (column c.way ss) stored
    → IsSmall (λ ts. sum_by (plain_size l.physical) (values_in ts)) (length ss) stored
column_small c l ss stored f h a =
    let k = rows_few c.way ss f.slim h in
    record {
      short = omega (arith, stored_long (leaf_type c.data_type) l.physical (column c.way ss) stored a, k.short);
      light = omega (arith, stored_light (leaf_type c.data_type) l.physical (column c.way ss) stored f.light a, k.light);
    }

-- ---- pieces of rows
pub record IsPart (n : ℕ) (ss : List Slot) : Type 0 where
  pub are : AllByRecursion IsSlot ss
  pub few : length ss ≤ n

front_each : (n : ℕ) (ss : List Slot) → AllByRecursion IsSlot ss → AllByRecursion IsSlot (take n ss)
front_each n ss h = recursion_from_All IsSlot (take n ss) (All-take IsSlot n ss (All-from_recursion IsSlot ss h))

behind_each : (n : ℕ) (ss : List Slot) → AllByRecursion IsSlot ss → AllByRecursion IsSlot (drop n ss)
behind_each n ss h = recursion_from_All IsSlot (drop n ss) (All-drop IsSlot n ss (All-from_recursion IsSlot ss h))

pieces_each : (m fuel n : ℕ) (ss : List Slot) → AllByRecursion IsSlot ss → length ss ≤ m → AllByRecursion (IsPart m) (pieces fuel n ss)
pieces_each m zero n ss h l = tt
pieces_each m (suc fuel) n [] h l = tt
pieces_each m (suc fuel) n (s ∷ ss) h l =
    (record { are = front_each n (s ∷ ss) h; few = omega (arith, l, length-take n (s ∷ ss)) }, pieces_each m fuel n (drop n (s ∷ ss)) (behind_each n (s ∷ ss) h) (omega (arith, l, length-drop n (s ∷ ss))))

pub cut_each : (m : ℕ) (n : ℕ) (ss : List Slot) → AllByRecursion IsSlot ss → length ss ≤ m → AllByRecursion (IsPart m) (cut ss (Some n))
cut_each m n ss h l = pieces_each m (length ss) n ss h l
