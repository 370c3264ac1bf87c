use Rattle.std.proofs.Common.{◌≡◌, ◌≤◌, ◌-◌, ℕ, length, is_none, arith}
use Rattle.std.specs.Prelude.{count_by}
use Rattle.levels.specs.Nested.{nested_column}
use Rattle.pq_files.specs.Room.{max_count}
use Rattle.page_statistics.proofs.Made.{as_many, count_stated, nulls_and_values, stated}
use Rattle.page_statistics.proofs.statistics.column_statistics.Goals as goal

pub overflow_sub-nulls : goal.overflow_sub-nulls
overflow_sub-nulls g c =
    let v = g.L.OrderedLeaf.value c.args.leaf.now in
    omega (arith, c.num_values.ensures v, c.look_along-seen.ensures.values, as_many v c.args.nested.now, nulls_and_values (nested_column v c.args.nested.now))

pub returns-clause-ok : goal.returns-clause-ok
returns-clause-ok g c =
    let v = g.L.OrderedLeaf.value c.args.leaf.now in
    let ts = nested_column v c.args.nested.now in
    let nulls : ℕ = c.num_values.result - c.look_along-seen.result.values in
    let are : length ts ≤ max_count → nulls ≡ count_by (λ x. is_none x.value) ts =
    λ few. omega (arith, few, c.num_values.ensures v, c.look_along-seen.ensures.values, as_many v c.args.nested.now, nulls_and_values ts) in
    stated (g.L.OrderedLeaf.kind c.args.leaf.now) (g.L.OrderedLeaf.physical c.args.leaf.now) v c.args.nested.now c.look_along-seen.result.extremes c.in_ok-texts.texts.least c.in_ok-texts.texts.greatest c.stated_count.result c.requires.ordered
    (count_stated ts nulls c.stated_count.result are c.stated_count.ensures) c.look_along-seen.ensures.extremes c.in_ok-texts.ensures.ok
