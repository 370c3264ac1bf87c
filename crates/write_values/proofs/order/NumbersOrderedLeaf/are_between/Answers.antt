use Rattle.std.proofs.Common.{arith, rules}
use Rattle.std.proofs.lemmas.List.{length-map}
use Rattle.columns_core.specs.Shapes.{base}
use Rattle.write_values.proofs.Ordered.{between_up}
use Rattle.write_values.proofs.order.NumbersOrderedLeaf.are_between.Goals as goal

pub returns : goal.returns
returns g c = λ t.
    let a = c.args.self.now.array.now in
    let v = g.T.NativeType.value (base a.0) in
    let n = length-map a.1.0 v in
    between_up v g.T.OrderedNative.ordinal (λ x. g.met.T.OrderedNative.in_order (base a.0) x c.know.ensures.typed c.args.self.now.ordered) a.1.0 c.args.from c.args.to c.args.least c.args.greatest _ _ c.requires.ordered (omega (arith, c.requires.within, n)) (omega (arith, c.requires.low, n)) (omega (arith, c.requires.high, n)) (search rules) (search rules) (rw c.values-values.ensures at (c.lie_between.ensures t))
