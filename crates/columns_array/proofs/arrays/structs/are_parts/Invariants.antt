use Rattle.std.proofs.Common.{◌↔◌, drop}
use Rattle.columns_core.specs.View.{fields_view}
use Rattle.columns_array.specs.Boxed.{all_boxed}
use Rattle.columns_slots.specs.Slots.{AreSound}
use Rattle.columns_array.specs.Fits.{FitParts}
use Rattle.columns_array.proofs.arrays.structs.are_parts.Given as goal

abbrev pub invariant-loop-i : goal.invariant-loop-i
invariant-loop-i l = record {
  parts : FitParts l.size (fields_view l.fields.items) (all_boxed l.values.items) ↔ FitParts l.size (fields_view (drop l.i l.fields.items)) (all_boxed (drop l.i l.values.items));
  sound : AreSound l.size (all_boxed (drop l.i l.values.items)) → AreSound l.size (all_boxed l.values.items);
}
