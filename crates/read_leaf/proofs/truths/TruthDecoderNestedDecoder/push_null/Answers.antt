use Rattle.std.proofs.Common.{◌++◌, List, Bool, false, replicate, ap, ◌∙◌}
use Rattle.std.proofs.lemmas.Result.{on_ok_weaker}
use Rattle.read_leaf.proofs.TruthSlots.{nulls-decoded}
use Rattle.read_leaf.proofs.truths.TruthDecoderNestedDecoder.push_null.Goals as goal

pub returns-clause-ok : goal.returns-clause-ok
returns-clause-ok c =
    let d = c.decoded.inside in
    rw (← c.decoded.view_is) (on_ok_weaker c.extend_constant-2.result (λ p. nulls-decoded c.args.count d.values.0 _ d.validity.0 _ c.decoded.invariant c.in-Ok.ensures.ok (p ∙ ap (λ (x : List Bool). x ++ replicate c.args.count false) c.reserve.ensures.same)) c.extend_constant-2.ensures.ok)
