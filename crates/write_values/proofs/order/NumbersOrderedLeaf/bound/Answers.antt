use Rattle.std.proofs.Common.{◌<◌, ◌≡◌, ◌∙◌, ℤ, length, arith, ap, rules}
use Rattle.std.proofs.lemmas.List.{length-map}
use Rattle.shredding.specs.Slot.{number}
use Rattle.columns_core.specs.Shapes.{base, leaf_type}
use Rattle.pq_tree.specs.Views.{physical_view}
use Rattle.page_statistics.specs.Spelled.{bound_text}
use Rattle.write_values.proofs.Ordered.{number_spelled}
use Rattle.write_values.proofs.order.NumbersOrderedLeaf.bound.Goals as goal

pub returns-clause-ok : goal.returns-clause-ok
returns-clause-ok g c =
    let a = c.args.self.now.array.now in
    let x = c.index-values-i.result in
    let p = physical_view g.P.ParquetNativeType.physical in
    let within : c.args.i < length a.1.0 = omega (arith, c.requires, length-map a.1.0 (g.T.NativeType.value (base a.0))) in
    let text : c.push_le_bytes.new.out.items ≡ bound_text p (number (g.T.StoredAs.stored_number x)) =
    rw c.new-text.ensures.items at c.in_ok-push_le_bytes.ensures.ok
    ∙ (g.met.P.StoredNumber.text_is c.to_stored-stored.result ∙ ap (λ (z : ℤ). bound_text p (number z)) c.to_stored-stored.ensures) in
    number_spelled (leaf_type (base a.0)) p (g.T.NativeType.value (base a.0)) a.1.0 c.args.i x (g.T.StoredAs.stored_number x) _ within (search rules)
    (g.met.T.StoredAs.by_the_table (base a.0) x (g.met.T.AlwaysStored.always x) c.know.ensures.typed c.args.self.now.ordered) text
