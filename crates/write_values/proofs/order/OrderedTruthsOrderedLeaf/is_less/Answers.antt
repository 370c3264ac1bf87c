use Rattle.std.proofs.Common.{◌∙◌, ◌<◌, length, get_or, false, refl, ap, arith}
use Rattle.std.proofs.lemmas.List.{length-map}
use Rattle.shredding.specs.Slot.{truth}
use Rattle.write_values.proofs.Ordered.{implied_true, truths_up}
use Rattle.write_values.proofs.order.OrderedTruthsOrderedLeaf.is_less.Goals as goal

pub returns-else-not-get_bit-clause-other : goal.returns-else-not-get_bit-clause-other
returns-else-not-get_bit-clause-other c = λ e.
    let bits = c.args.self.now.array.now.1.0 in
    let i : c.args.i < length bits = omega (arith, c.requires.first, length-map bits truth) in
    let j : c.args.j < length bits = omega (arith, c.requires.second, length-map bits truth) in
    truths_up bits c.args.j c.args.i (get_or bits c.args.j false) c.get_bit.result j i refl (c.get_bit.ensures ∙ ap (λ xs. get_or xs c.args.i false) c.values-values.ensures) (implied_true _ c.get_bit.result c.if-not-get_bit.false)
