use Rattle.columns_array.specs.Boxed.{boxed}
use Rattle.columns_slots.specs.Slots.{tree_size}
use Rattle.nested_paths.proofs.merge.+holds_values.Given as goal

abbrev pub decreases-holds_values : goal.decreases-holds_values
decreases-holds_values a = tree_size (boxed a.array.now)
