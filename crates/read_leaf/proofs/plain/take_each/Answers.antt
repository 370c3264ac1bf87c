use Rattle.std.proofs.Common.{inl, inr, ◌<◌, length, take, arith, sym, ◌∙◌}
use Rattle.std.proofs.lemmas.List.{take_more_set}
use Rattle.read_leaf.proofs.Stretches.{took-nothing, took-next, fault-next}
use Rattle.read_leaf.proofs.plain.take_each.Goals as goal

pub loop-count-init : goal.loop-count-init
loop-count-init c = record { took = took-nothing c.args.text.now c.args.content.now.items }

pub returns-in-Err-clause-took : goal.returns-in-Err-clause-took
returns-in-Err-clause-took c = rw c.in-Err.ensures.err.1 c.loop-count.invariant.took

pub returns-in-Err-clause-end : goal.returns-in-Err-clause-end
returns-in-Err-clause-end c = fault-next c.args.valid c.loop-count.count (length c.args.lengths.now) c.args.text.now c.loop-count.rest.now _ _ _ c.in-Err.error c.loop-count-test.true c.loop-count.invariant.took (elim c.in-Err.ensures.err.0 [
  | inl memory ↦ inl memory
  | inr none ↦ inr (none.0, sym c.is_set.ensures ∙ none.1, none.2)
])

pub loop-count-preserved : goal.loop-count-preserved
loop-count-preserved c =
    let i = c.loop-count.count in
    let n = c.in-Ok.length in
    let ns = c.loop-count.lengths in
    let there : i < length ns = omega (arith, c.loop-count-test.true, c.loop-count.auto.lengths) in
    record { took = rw (take_more_set ns i n there) (took-next c.args.valid i c.is_set.result n c.args.text.now c.loop-count.rest.now c.in-Ok.behind.now (take i ns) c.args.content.now.items c.loop-count.content.items c.take_one.new.content.items c.loop-count.invariant.took (sym c.is_set.ensures) c.in-Ok.ensures.ok) }
