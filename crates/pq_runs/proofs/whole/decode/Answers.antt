use Rattle.std.proofs.Common.{◌≡◌, ◌⊎◌, ◌∙◌, ap, ◌++◌, List, ℕ, replicate, inl, inr, arith}
use Rattle.columns_base.specs.declared.error.Error.{Error}
use Rattle.columns_base.specs.declared.error.Error.TheVariants.{Memory}
use Rattle.pq_runs.specs.Hybrid.{fault}
use Rattle.pq_runs.specs.Spelled.{Spelled}
use Rattle.pq_runs.proofs.Decoding.{zeros_spelled, all_spelled, none_spelled, passed_on}
use Rattle.pq_runs.proofs.whole.decode.Goals as goal

pub returns-then-width-eq0-clause-ok : goal.returns-then-width-eq0-clause-ok
returns-then-width-eq0-clause-ok c = zeros_spelled c.args.width c.args.called c.args.bytes.now _ c.if-width-eq0.true (c.in_ok-push_copies.ensures.ok ∙ ap (λ (t : List ℕ). t ++ replicate c.args.called 0) c.new-numbers.ensures.items)

pub returns-in_err-rest-clause-err : goal.returns-in_err-rest-clause-err
returns-in_err-rest-clause-err c =
    let P : Error → Type 0 = λ e. (e ≡ Memory) ⊎ ((e ≡ fault) × ((xs : List ℕ) → Spelled c.args.width c.args.called c.args.bytes.now xs → ⊥)) in
    let p : P c.in_err-rest.field-0.0 = elim c.in_err-rest.ensures.err [
      | inl memory ↦ inl memory
      | inr f ↦ inr (f.0, none_spelled c.args.width c.args.called _ c.args.bytes.now c.loop-rest.numbers.items c.loop-rest.rest.now c.if-width-eq0.false c.loop-rest.invariant.so_far (omega arith) f.1)
    ] in
    passed_on P c.from_residual-in_err-rest.result c.in_err-rest.field-0.0 c.from_residual-in_err-rest.ensures.1 p

pub returns-clause-ok : goal.returns-clause-ok
returns-clause-ok c = all_spelled c.args.width c.args.called c.args.bytes.now c.loop-rest.numbers.items c.loop-rest.rest.now c.if-width-eq0.false (omega arith) c.loop-rest.invariant.within c.loop-rest.invariant.so_far
