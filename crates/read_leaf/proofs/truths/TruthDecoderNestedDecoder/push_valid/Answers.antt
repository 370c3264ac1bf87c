use Rattle.std.proofs.Common.{◌≡◌, ◌+◌, ◌%◌, ◌++◌, ℕ, List, Bool, true, true≢false, replicate, inl, inr, refl, ap, sym, subst, ◌∙◌, arith}
use Rattle.std.proofs.lemmas.Result.{on_ok_weaker}
use Rattle.read_leaf.specs.Truths.{AddsTruths}
use Rattle.read_leaf.proofs.TruthSlots.{too-few, truths-decoded}
use Rattle.read_leaf.proofs.truths.TruthDecoderNestedDecoder.push_valid.Goals as goal

pub returns-then-not-are_there-clause-err : goal.returns-then-not-are_there-clause-err
returns-then-not-are_there-clause-err c =
    let s = c.args.state.now in
    inr (inl (refl, too-few s.values.now s.bit c.args.count (omega (arith, c.if-count-eq0.false)) (λ h. true≢false (sym (c.are_there.ensures.1 h) ∙ c.if-not-are_there.true))))

pub returns-clause-ok : goal.returns-clause-ok
returns-clause-ok c =
    let d = c.decoded.inside in
    let s = c.args.state.now in
    let end : s.bit + c.args.count ≡ c.in-Some.end = omega (arith, c.in-Some.ensures) in
    let adds : AddsTruths c.args.count s.values.now s.bit c.in-Ok.rest.now (c.in-Some.end % 8) d.values.0 c.append_truths.new.values.0 = subst (λ (k : ℕ). AddsTruths c.args.count s.values.now s.bit c.in-Ok.rest.now (k % 8) d.values.0 c.append_truths.new.values.0) end c.in-Ok.ensures.ok in
    rw (← c.decoded.view_is) (on_ok_weaker c.extend_constant.result (λ p. truths-decoded c.args.count s.values.now c.in-Ok.rest.now s.bit (c.in-Some.end % 8) d.values.0 _ d.validity.0 _ c.decoded.invariant adds (p ∙ ap (λ (x : List Bool). x ++ replicate c.args.count true) c.reserve.ensures.same)) c.extend_constant.ensures.ok)
