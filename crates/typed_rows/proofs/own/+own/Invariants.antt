use Rattle.std.proofs.Common.{◌≤◌, ◌+◌, ◌-◌, ◌*◌, drop}
use Rattle.columns_array.specs.Boxed.{all_boxed, boxed}
use Rattle.columns_core.specs.View.{fields_view}
use Rattle.columns_slots.specs.Slots.{AreLong, AreTyped, tree_size, trees_size}
use Rattle.typed_rows.specs.Own.{AreOwn, AreRows}
use Rattle.typed_rows.proofs.own.+own.Given as goal

abbrev pub invariant-entries_are_own-loop-i : goal.invariant-entries_are_own-loop-i
invariant-entries_are_own-loop-i l = AreOwn l.is_nullable l.keyed l.from (l.i - l.from)

abbrev pub invariant-fields_are_own-fields : goal.invariant-fields_are_own-fields
invariant-fields_are_own-fields l = record {
  enough : AreRows (fields_view (drop l.k l.fields)) (all_boxed (drop l.k l.arrays)) l.from l.count → AreRows (fields_view l.fields) (all_boxed l.arrays) l.from l.count;
  needed : AreRows (fields_view l.fields) (all_boxed l.arrays) l.from l.count → AreRows (fields_view (drop l.k l.fields)) (all_boxed (drop l.k l.arrays)) l.from l.count;
  typed : AreTyped (fields_view (drop l.k l.fields)) (all_boxed (drop l.k l.arrays));
  long : AreLong (l.from + l.count) (all_boxed (drop l.k l.arrays));
}

abbrev pub invariant-masked_are_own-loop-at : goal.invariant-masked_are_own-loop-at
invariant-masked_are_own-loop-at l = record {
  begins : l.from ≤ l.at;
  within : l.at ≤ l.end;
  own : AreOwn l.is_nullable (boxed l.array) l.from (l.at - l.from);
}

abbrev pub decreases-masked_are_own-loop-at : goal.decreases-masked_are_own-loop-at
decreases-masked_are_own-loop-at l = l.end - l.at

abbrev pub decreases-are_own : goal.decreases-are_own
decreases-are_own l = 4 * tree_size (boxed l.array.now) + 3

abbrev pub decreases-masked_are_own : goal.decreases-masked_are_own
decreases-masked_are_own l = 4 * tree_size (boxed l.array.now) + 2

abbrev pub decreases-kept_are_own : goal.decreases-kept_are_own
decreases-kept_are_own l = 4 * tree_size (boxed l.array.now) + 1

abbrev pub decreases-entries_are_own : goal.decreases-entries_are_own
decreases-entries_are_own l = 4 * tree_size l.keyed.now

abbrev pub decreases-fields_are_own : goal.decreases-fields_are_own
decreases-fields_are_own l = 4 * trees_size (all_boxed l.arrays.now) + 4
