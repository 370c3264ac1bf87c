use Rattle.std.proofs.Common.{◌<◌, [], length, take, arith, sym, ◌+◌}
use Rattle.std.proofs.lemmas.List.{take_more_set}
use Rattle.read_leaf.proofs.Stretches.{took-nothing, took-next}
use Rattle.read_leaf.proofs.plain.take_short.Goals as goal

pub loop-count-init : goal.loop-count-init
loop-count-init c = record { room = omega arith; took = took-nothing c.args.text.now [] }

pub returns-in-None-clause-fits : goal.returns-in-None-clause-fits
returns-in-None-clause-fits c = omega (arith, c.loop-count.invariant.room, c.loop-count-test.true, c.requires.room)

pub returns-in-None-clause-took : goal.returns-in-None-clause-took
returns-in-None-clause-took c = rw c.in-None.ensures c.loop-count.invariant.took

pub loop-count-preserved : goal.loop-count-preserved
loop-count-preserved c =
    let i = c.loop-count.count in
    let n = c.in-Some.length in
    let ns = c.loop-count.lengths in
    let there : i < length ns = omega (arith, c.loop-count-test.true, c.loop-count.auto.lengths) in
    record {
      room = omega (arith, c.loop-count.invariant.room, c.in-Some.ensures.0);
      took = rw (take_more_set ns i n there) (took-next c.args.valid i c.is_set.result n c.args.text.now c.loop-count.rest.now c.in-Some.behind.now (take i ns) [] (take c.loop-count.size c.loop-count.places) (take (c.loop-count.size + n) c.put_next.new.places) c.loop-count.invariant.took (sym c.is_set.ensures) c.in-Some.ensures.1);
    }
