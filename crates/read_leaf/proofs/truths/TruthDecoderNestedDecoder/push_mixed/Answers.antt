use Rattle.std.proofs.Common.{◌<◌, ℕ, length, true≢false, inl, inr, refl, sym, subst, ◌∙◌, arith}
use Rattle.std.proofs.lemmas.Result.{on_ok_weaker}
use Rattle.read_leaf.proofs.SetBits.{mixed-all, mixed-none}
use Rattle.read_leaf.proofs.TruthSlots.{too-few}
use Rattle.read_leaf.specs.Truths.{stored_truths}
use Rattle.read_leaf.proofs.truths.TruthDecoderNestedDecoder.push_mixed.Goals as goal

pub returns-then-wanted-count-clause-ok : goal.returns-then-wanted-count-clause-ok
returns-then-wanted-count-clause-ok c = on_ok_weaker c.push_valid.result (λ d. mixed-all c.args.valid c.args.count _ _ _ _ (sym c.if-wanted-count.true ∙ c.count_set-wanted.ensures) d) c.push_valid.ensures.ok

pub returns-then-wanted-eq0-clause-ok : goal.returns-then-wanted-eq0-clause-ok
returns-then-wanted-eq0-clause-ok c = on_ok_weaker c.push_null.result (λ p. mixed-none c.args.valid c.args.count _ _ _ (sym c.if-wanted-eq0.true ∙ c.count_set-wanted.ensures) p) c.push_null.ensures.ok

pub returns-then-not-are_there-clause-err : goal.returns-then-not-are_there-clause-err
returns-then-not-are_there-clause-err c =
    let s = c.args.state.now in
    let some : 0 < c.count_set-wanted.result = omega (arith, c.if-wanted-eq0.false) in
    let few = too-few s.values.now s.bit c.count_set-wanted.result some (λ h. true≢false (sym (c.are_there.ensures.1 h) ∙ c.if-not-are_there.true)) in
    inr (inl (refl, subst (λ (n : ℕ). length (stored_truths s.values.now s.bit) < n) c.count_set-wanted.ensures few))
