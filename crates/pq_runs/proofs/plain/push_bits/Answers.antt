use Rattle.std.proofs.Common.{◌≡◌, ◌+◌, ◌%◌, ◌∙◌, arith, rules, ap, sym}
use Rattle.std.specs.Iterator.{Drains}
use Rattle.pq_runs.specs.Listed.{bit}
use Rattle.pq_runs.proofs.Packs.{packs_begin, bits_more, bits_end, kept_more, kept_then}
use Rattle.pq_runs.proofs.Steps.{finished}
use Rattle.pq_runs.proofs.plain.push_bits.Goals as goal
use Rattle.pq_runs.proofs.plain.push_bits.Goals.{then-value, else-value}

pub loop-value-init : goal.loop-value-init
loop-value-init g c = record { small = omega arith; packs = packs_begin 1 c.args.out.now.items }

pub loop-value-preserved : goal.loop-value-preserved
loop-value-preserved g c =
    let e = c.in_ok-held.ensures.ok in
    let one : c.if-value.one ≡ bit c.in-Some.value = elim c.if-value.branch [ then-value w ↦ w.one-is ∙ ap bit (sym w.if-value.true) | else-value w ↦ w.one-is ∙ ap bit (sym w.if-value.false) ] in
    record {
      small = omega arith;
      packs = bits_more c.args.out.now.items c.loop-value.out.items c.push_word.new.out.items c.loop-value.yielded c.loop-value.bits c.loop-value.held c.in-Some.value c.if-value.one e.0 ((c.loop-value.bits + 1) % 32) c.in_ok-held.held one c.loop-value.invariant.small c.loop-value.invariant.packs e.1 e.2;
    }

pub returns-clause-ok : goal.returns-clause-ok
returns-clause-ok g c =
    let drains : Drains g.I.Iterator.next_gives c.args.values c.loop-value.yielded = search rules in
    finished c.push_rest.result (λ e. let last = bits_end c.args.out.now.items c.loop-value.out.items c.push_rest.new.out.items c.loop-value.yielded c.loop-value.bits c.loop-value.held e.0 c.loop-value.invariant.packs e.1 e.2 e.3 in (c.loop-value.yielded, drains, last.0, last.1, last.2)) c.push_rest.ensures.ok

pub returns-clause-kept : goal.returns-clause-kept
returns-clause-kept g c = kept_then c.args.out.now.items c.loop-value.out.items c.push_rest.new.out.items (kept_more c.args.out.now.items c.loop-value.out.items c.loop-value.invariant.packs.text c.loop-value.invariant.packs.parts) c.push_rest.ensures.kept

pub returns-in_err-held-clause-kept : goal.returns-in_err-held-clause-kept
returns-in_err-held-clause-kept g c = kept_then c.args.out.now.items c.loop-value.out.items c.push_word.new.out.items (kept_more c.args.out.now.items c.loop-value.out.items c.loop-value.invariant.packs.text c.loop-value.invariant.packs.parts) c.in_err-held.ensures.kept
