use Rattle.std.proofs.Common.{◌≡◌, ◌+◌, ◌-◌, ◌%◌, ◌≤◌, ◌==◌, arith}
use Rattle.read_leaf.proofs.BitRuns.{more-decoded, run-refused}
use Rattle.read_leaf.proofs.fixed_bytes.FixedBytesDecoderNestedDecoder.push_mixed.Goals as goal

pub returns-in-Err-clause-err : goal.returns-in-Err-clause-err
returns-in-Err-clause-err c =
    let done = c.args.count - c.loop-left.left in
    let within : done + c.first_run-run.result ≤ c.args.count = omega (arith, c.loop-left.invariant.most, c.first_run-run.ensures.within) in
    run-refused c.args.valid done c.loop-left.bits c.first_run-run.result (c.loop-left.bits % 2 == 1) _ _ _ _ c.first_run-run.ensures.alike c.loop-left.invariant.decoded 0 c.args.count c.in-Err.error within c.in-Err.ensures.err

pub loop-left-preserved : goal.loop-left-preserved
loop-left-preserved c =
    let done = c.args.count - c.loop-left.left in
    let place : c.args.count - (c.loop-left.left - c.first_run-run.result) ≡ done + c.first_run-run.result = omega (arith, c.loop-left.invariant.most, c.first_run-run.ensures.within) in
    record {
      most = omega (arith, c.loop-left.invariant.most);
      decoded = more-decoded c.args.valid done c.loop-left.bits c.first_run-run.result (c.loop-left.bits % 2 == 1) _ _ _ _ c.first_run-run.ensures.alike c.loop-left.invariant.decoded _ _ _ _ place c.bits_behind-bits.ensures c.in-Ok.ensures.ok;
      suits = c.push_run.ensures.suits;
    }
