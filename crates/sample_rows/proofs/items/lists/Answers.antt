use Rattle.sample_rows.proofs.Fitting.{items_few, items_fit}
use Rattle.sample_rows.proofs.items.lists.Goals as goal

pub list_array-requires-clause-few : goal.list_array-requires-clause-few
list_array-requires-clause-few c =
    let i = c.in_ok-items.items in
    rw (c.in_ok-values.ensures.ok) (items_few c.args.count i.offsets.0 i.numbers.items i.mask.0 c.requires.count c.in_ok-items.ensures.ok)

pub list_array-requires-clause-fit : goal.list_array-requires-clause-fit
list_array-requires-clause-fit c =
    let i = c.in_ok-items.items in
    rw (c.requires.typed, c.in_ok-values.ensures.ok, c.in_ok-mask.ensures.ok, c.in_ok-offsets.ensures.ok) (items_fit c.args.count i.offsets.0 i.numbers.items i.mask.0 c.in_ok-items.ensures.ok)
