use Rattle.std.proofs.Common.{ℕ, List, ◌^◌, ◌++◌, ap, ◌∙◌}
use Rattle.pq_numbers.specs.Bits.{digits_of}
use Rattle.pq_numbers.proofs.Bytes.{are-drop}
use Rattle.pq_runs.proofs.Decoding.{skip_eight, enough_eight, eight_more, eight_are}
use Rattle.pq_runs.proofs.whole.push_narrow.Goals as goal

pub skip-rest-requires : goal.skip-rest-requires
skip-rest-requires c = skip_eight c.args.width c.loop-left.left c.loop-left.rest.now c.loop-left-test.true c.loop-left.invariant.enough

pub loop-left-preserved : goal.loop-left-preserved
loop-left-preserved c = rw c.skip-rest.ensures (record {
  are = are-drop _ _ c.loop-left.invariant.are;
  enough = enough_eight c.args.width c.loop-left.left c.loop-left.rest.now c.loop-left-test.true c.loop-left.invariant.enough;
  so_far = eight_more c.args.width c.loop-left.left c.loop-left.numbers.items c.extend_from_slice.new.self.items _ c.loop-left.rest.now c.loop-left-test.true c.loop-left.invariant.are (c.in_ok-extend_from_slice.ensures.items ∙ ap (λ (t : List ℕ). c.loop-left.numbers.items ++ t) (c.eight_of.ensures ∙ ap (digits_of (2 ^ c.args.width) 8) c.low_bytes.ensures ∙ eight_are c.args.width c.loop-left.rest.now c.requires.fits (skip_eight c.args.width c.loop-left.left c.loop-left.rest.now c.loop-left-test.true c.loop-left.invariant.enough))) c.loop-left.invariant.so_far;
})
