use Rattle.std.proofs.Common.{ap, ◌∙◌, ◌++◌, replicate, false}
use Rattle.read_leaf.proofs.Standing.{are-nulls, nulls-more, allowed-nulls}
use Rattle.read_leaf.proofs.strings.StringValues.push_nulls.Goals as goal

pub invariant_of-self-2 : goal.invariant_of-self-2
invariant_of-self-2 g c =
    let bits = (rw c.unwrap.ensures at c.extend_constant-2.ensures.ok) ∙ ap (λ bs. bs ++ replicate c.args.count false) c.reserve.ensures.same in
    (are-nulls c.args.count c.self.inside.strings c.extend_constant.new.self c.self.inside.validity.0 _ c.self.invariant.0 c.in-Ok.ensures.ok bits, rw c.in-Ok.ensures.ok (allowed-nulls g.K.StringKind.allows c.args.count c.self.inside.strings c.self.invariant.1 g.met.K.StringKind.empty))

pub returns-clause-ok : goal.returns-clause-ok
returns-clause-ok g c =
    let bits = (rw c.unwrap.ensures at c.extend_constant-2.ensures.ok) ∙ ap (λ bs. bs ++ replicate c.args.count false) c.reserve.ensures.same in
    rw (← c.self.view_is, c.in-Ok.ensures.ok, bits) (nulls-more c.args.count c.self.inside.strings c.self.inside.validity.0 c.self.invariant.0.even)
