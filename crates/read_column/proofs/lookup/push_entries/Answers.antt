use Rattle.std.proofs.Common.{◌<◌, arith, length}
use Rattle.read_column.proofs.Gathering.{appended_more, count_is, lays_all, lays_front}
use Rattle.read_column.proofs.lookup.push_entries.Goals as goal

pub returns-in-None-clause-ok : goal.returns-in-None-clause-ok
returns-in-None-clause-ok c =
    let within : c.loop-at.at < length c.args.indices.now = omega (arith, c.loop-at-test.true, c.requires) in
    lays_front c.args.entries.now c.loop-at.at c.args.count c.args.indices.now c.args.values.now.items c.loop-at.values.items c.loop-at-test.true within c.in-None.ensures c.loop-at.invariant.laid

pub loop-at-preserved : goal.loop-at-preserved
loop-at-preserved c =
    let within : c.loop-at.at < length c.args.indices.now = omega (arith, c.loop-at-test.true, c.requires) in
    record {
      most = omega (arith, c.loop-at-test.true);
      laid = appended_more c.args.entries.now c.loop-at.at c.args.indices.now c.args.values.now.items c.loop-at.values.items c.extend_from_slice.new.self.items c.in-Some.text.now within c.in-Some.ensures c.in_ok-extend_from_slice-in-Some.ensures.items c.loop-at.invariant.laid;
    }

pub returns-clause-ok : goal.returns-clause-ok
returns-clause-ok c = lays_all c.args.entries.now _ c.args.values.now.items c.loop-at.values.items (count_is c.args.entries.now c.args.count c.loop-at.at c.args.indices.now c.args.values.now.items c.loop-at.values.items (omega (arith, c.loop-at-test.false, c.loop-at.invariant.most)) c.loop-at.invariant.laid)
