use Rattle.write_values.proofs.Ordered.{fixed_spelled}
use Rattle.write_values.proofs.order.FixedStringsOrderedLeaf.bound.Goals as goal

pub returns-clause-ok : goal.returns-clause-ok
returns-clause-ok c =
    let a = c.args.self.now.array.now in
    fixed_spelled a.0 c.in_ok-text.text.items c.string.result.now _ c.know.ensures.width c.string.ensures.is c.string.ensures.size c.in_ok-text.ensures.items
