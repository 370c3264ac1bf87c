-- What positions of an array hold, that its own mask keeps.
use Rattle.std.specs.Prelude.{◌≡◌, ◌↔◌, ℕ, ◌+◌, ◌<◌, ◌≤◌, Bool}
use Rattle.shredding.specs.Slot.{null}
use Rattle.columns_array.specs.Boxed.{all_boxed, boxed}
use Rattle.columns_core.specs.View.{fields_view}
use Rattle.columns_slots.specs.Slots.{AreLong, AreTyped, slot_at, tree_len, tree_size, trees_size}
use Rattle.columns_slots.specs.Tree.{ArrayTree}
use Rattle.typed_rows.specs.Own.{AreOwn, AreRows}
use Rattle.typed_rows.specs.declared.inner.Inner.{Inner}
use Rattle.typed_rows.specs.declared.inner.Inner.TheVariants.{Nulls, Values, Items, Fields, Entries}

abbrev pub IsInner : ArrayTree → ℕ → ℕ → Inner → Type 0
IsInner a from n Nulls = (i : ℕ) → slot_at a i ≡ null
IsInner a from n Values = (b : Bool) → AreOwn b a from n
IsInner a from n (Items values nullable first count) =
    (first + count ≤ tree_len (boxed values.now)) × (tree_size (boxed values.now) < tree_size a) × ((b : Bool) → AreOwn nullable (boxed values.now) first count ↔ AreOwn b a from n)
IsInner a from n (Fields fields arrays) =
    AreTyped (fields_view fields.now) (all_boxed arrays.now) × AreLong (from + n) (all_boxed arrays.now) × (trees_size (all_boxed arrays.now) < tree_size a)
    × ((b : Bool) → AreRows (fields_view fields.now) (all_boxed arrays.now) from n ↔ AreOwn b a from n)
IsInner a from n (Entries keyed) = a ≡ keyed.now
