use Rattle.std.proofs.Common.{arith, rules, SFits, to_z}
use Rattle.std.proofs.lemmas.Int.{to_z-of_z}
use Rattle.std.specs.Int.{w64}
use Rattle.pq_delta_reads.proofs.Adding.{added}
use Rattle.pq_delta_reads.proofs.take.add_up.Goals as goal

pub returns : goal.returns
returns c =
    let latest : SFits w64 c.args.latest = search rules in
    let least : SFits w64 c.args.least = search rules in
    added c.args.least (to_z w64 c.loop-number.latest-bits) c.loop-number.number-index c.loop-number.numbers _ (omega (arith, c.loop-number-test.false, c.loop-number.invariant.same)) (rw (to_z-of_z w64 c.args.latest latest, to_z-of_z w64 c.args.least least) at c.loop-number.invariant.so_far)
