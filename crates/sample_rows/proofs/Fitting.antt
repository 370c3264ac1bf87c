-- The parts of the array of lists fit.
use Rattle.std.proofs.Common.{◌≡◌, ℕ, ℤ, ◌-◌, ◌^◌, ◌≤◌, ◌<◌, Bool, List, length, map, Some, refl, sym, ◌∙◌, arith}
use Rattle.std.proofs.lemmas.List.{length-map}
use Rattle.std.proofs.lemmas.List.FromFn.{length-map-range_with_len}
use Rattle.shredding.specs.Parts.{MaskFits}
use Rattle.columns_array.specs.Fits.{FitsLists}
use Rattle.columns_core.specs.Natives.{value_i32}
use Rattle.columns_core.specs.Shapes.{base}
use Rattle.columns_core.specs.Tree.{t_int32}
use Rattle.columns_slots.specs.Slots.{tree_len}
use Rattle.columns_slots.specs.Types.{small_item}
use Rattle.sample_rows.specs.Fields.{items_type}
use Rattle.sample_rows.specs.Parts.{AreItems, has_list, item_array, item_numbers}
use Rattle.sample_rows.specs.Rows.{each_row}
use Rattle.sample_rows.proofs.Strung.{length-places, strung_places}

pub items_marked : (n : ℕ) (os : List ℕ) (xs : List ℤ) (ms : List Bool) → AreItems n os xs ms → MaskFits (Some ms) (length xs)
items_marked n os xs ms h = sym h.marks_are.last ∙ h.numbers_are.last

len_of : (xs : List ℤ) (ms : List Bool) → tree_len (item_array xs ms) ≡ length xs
len_of xs ms = length-map xs (value_i32 t_int32)

pub items_few : (n : ℕ) (os : List ℕ) (xs : List ℤ) (ms : List Bool) → n ≤ 1000000 → AreItems n os xs ms → tree_len (item_array xs ms) < 2 ^ 31
items_few n os xs ms h a = omega (arith, len_of xs ms, a.numbers_are.last, a.few, h)

pub items_fit :
    (n : ℕ) (os : List ℕ) (xs : List ℤ) (ms : List Bool) → AreItems n os xs ms
    → FitsLists (small_item (base items_type)) os (item_array xs ms) (Some (each_row has_list n))
items_fit n os xs ms a =
    let c : length os - 1 ≡ n =
    rw (a.numbers_are.offsets_are) (omega (arith, length-places 0 (map length (each_row item_numbers n)), length-map (each_row item_numbers n) length, length-map-range_with_len item_numbers 0 n)) in
    (refl, rw (len_of xs ms) (strung_places (each_row item_numbers n) os xs a.numbers_are), length-map-range_with_len has_list 0 n ∙ sym c)
