use Rattle.std.proofs.Common.{◌≡◌, ℕ, ◌<◌, ◌+◌, [], arith, rules, subst, SFits, length, take}
use Rattle.std.proofs.lemmas.Int.{to_z-of_z}
use Rattle.std.specs.Int.{w64}
use Rattle.pq_delta_reads.specs.Blocks.{TakesStrings, signed}
use Rattle.pq_delta_reads.proofs.Copying.{takes_next}
use Rattle.pq_delta_reads.proofs.strings.put_strings.Goals as goal

pub loop-i-preserved : goal.loop-i-preserved
loop-i-preserved c =
    let fits : SFits w64 c.cast_signed.result = search rules in
    let within : c.loop-i.i < length c.args.lengths.now = omega (arith, c.loop-i-test.true, c.requires.few) in
    let s = rw (to_z-of_z w64 c.cast_signed.result fits) at c.in-Some.ensures in
    let on : c.loop-i.at + 4 + c.in-Some.size ≡ c.loop-i.at + (4 + c.in-Some.size) = omega arith in
    record {
      low = omega (arith, s.1, c.loop-i.invariant.low);
      takes = subst (λ (k : ℕ). TakesStrings (signed (take (c.loop-i.i + 1) c.args.lengths.now)) c.args.bytes.now c.put_string-rest.result.now [] (take k c.put_string-rest.new.places)) on (takes_next c.loop-i.i c.args.lengths.now c.args.bytes.now c.loop-i.rest.now c.put_string-rest.result.now [] (take c.loop-i.at c.loop-i.places) (take (c.loop-i.at + 4 + c.in-Some.size) c.put_string-rest.new.places) c.cast_signed.result c.in-Some.size within c.cast_signed.ensures c.loop-i.invariant.takes s.0 (omega (arith, s.1)) c.put_string-rest.ensures);
    }
