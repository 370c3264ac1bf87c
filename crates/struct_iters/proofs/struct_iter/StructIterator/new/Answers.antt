use Rattle.std.proofs.Common.{◌<◌, ◌∙◌, length, sym, arith}
use Rattle.columns_core.specs.View.{fields_view}
use Rattle.struct_iters.specs.Readings.{items_in}
use Rattle.struct_iters.proofs.Children.{struct-of, struct-view}
use Rattle.struct_iters.proofs.Collected.{as-many, not-zero}
use Rattle.struct_iters.proofs.struct_iter.StructIterator.new.Goals as goal

pub returns-clause-ok : goal.returns-clause-ok
returns-clause-ok g c = λ above n xs h.
    let v = not-zero _ (sym c.is_empty.ensures ∙ c.if-is_empty.false) in
    let some : 0 < length c.args.iters.items = omega (arith, v) in
    struct-of items_in above n (fields_view c.args.fields.items) c.args.iters.items xs _ some h (struct-view c.args.fields) c.in_ok-columns.ensures.ok

pub returns-clause-numbers : goal.returns-clause-numbers
returns-clause-numbers g c =
    let v = not-zero _ (sym c.is_empty.ensures ∙ c.if-is_empty.false) in
    let some : 0 < length c.args.iters.items = omega (arith, v) in
    (λ a. absurd (cc a), λ s. absurd (as-many c.args.iters.items (length c.args.fields.items) some (omega arith) s))
