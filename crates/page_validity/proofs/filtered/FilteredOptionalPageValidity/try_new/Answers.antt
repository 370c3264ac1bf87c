use Rattle.std.proofs.Common.{◌≡◌, ◌≤◌, ◌+◌, ◌∙◌, ap, sym, arith}
use Rattle.pq_bitmaps.specs.Selected.{selected}
use Rattle.pq_bitmaps.proofs.Filters.{selected_within}
use Rattle.pq_tree.specs.Views.{natural_part}
use Rattle.page_validity.proofs.filtered.FilteredOptionalPageValidity.try_new.Goals as goal

pub invariant_of-result : goal.invariant_of-result
invariant_of-result c =
    let rows = c.in_ok-rows.rows.items in
    let ok = c.in_ok-rows.ensures.ok in
    let within : 0 + selected rows ≤ ok.0 = selected_within 0 ok.0 rows ok.3 in
    let counts : ok.0 ≡ c.num_values-count.result = ap natural_part (ok.1 ∙ sym c.num_values-count.ensures) in
    record { rest = c.none.ensures.is; counted = omega (arith, within, counts, c.new-2.ensures.left, c.none.ensures.none) }
