use Rattle.std.proofs.Common.{◌≡◌, ◌≤◌, ◌-◌, ℕ, length, is_none, arith, false}
use Rattle.std.specs.Prelude.{count_by}
use Rattle.shredding.specs.Slot.{Value, truth}
use Rattle.levels.specs.Nested.{nested_column}
use Rattle.pq_files.specs.Room.{max_count}
use Rattle.page_statistics.proofs.Made.{as_many, count_stated, nulls_and_values, unordered_stated}
use Rattle.page_statistics.proofs.statistics.unordered_statistics.Goals as goal

pub overflow_sub-nulls : goal.overflow_sub-nulls
overflow_sub-nulls c =
    let v : ℕ → Value = λ i. truth false in
    omega (arith, c.num_values.ensures v, c.requires.values, as_many v c.args.nested.now, nulls_and_values (nested_column v c.args.nested.now))

pub returns : goal.returns
returns c = λ t p v order.
    let ts = nested_column v c.args.nested.now in
    let nulls : ℕ = c.num_values.result - c.args.values in
    let are : length ts ≤ max_count → nulls ≡ count_by (λ x. is_none x.value) ts =
    λ few. omega (arith, few, c.num_values.ensures v, c.requires.values, as_many v c.args.nested.now, nulls_and_values ts) in
    unordered_stated t p v c.args.nested.now c.stated_count.result order (count_stated ts nulls c.stated_count.result are c.stated_count.ensures)
