use Rattle.std.proofs.Common.{◌+◌, ◌<◌, arith}
use Rattle.std.specs.Int.{w64, trailing_zeros}
use Rattle.levels.specs.Nested.{parts_of}
use Rattle.write_places.specs.Reach.{IsRun}
use Rattle.write_places.specs.There.{is_there}
use Rattle.write_places.proofs.Bits.{run_is, no_run, whole_run}
use Rattle.write_places.proofs.there.next_run.Goals as goal

pub returns-then-word-eq0 : goal.returns-then-word-eq0
returns-then-word-eq0 c =
    let n = c.word_size-count.ensures in
    no_run (is_there (parts_of c.args.parts.now)) c.args.place c.args.to c.word_size-count.result c.masked_word-word.result n.some n.within c.masked_word-word.ensures.bits c.if-word-eq0.true

pub returns-then-word : goal.returns-then-word
returns-then-word c =
    let n = c.word_size-count.ensures in
    whole_run (is_there (parts_of c.args.parts.now)) c.args.place c.args.to c.word_size-count.result c.masked_word-word.result n.some n.few n.within c.masked_word-word.ensures.bits c.if-word.true

here : (c : goal.After-trailing_ones-run) → IsRun (is_there (parts_of c.args.parts.now)) c.args.place c.args.to (c.args.place + trailing_zeros w64 c.masked_word-word.result) (c.args.place + trailing_zeros w64 c.masked_word-word.result + c.trailing_ones-run.result)
here c =
    let n = c.word_size-count.ensures in
    let w = c.masked_word-word in
    let most : w.result < 18446744073709551615 = omega (arith, w.type_inv, c.if-word.false) in
    let some : 0 < w.result = omega (arith, c.if-word-eq0.false) in
    rw c.trailing_ones-run.ensures (run_is (is_there (parts_of c.args.parts.now)) c.args.place c.args.to c.word_size-count.result w.result n.few n.within w.ensures.low w.ensures.bits some most)

pub overflow_add-result-2 : goal.overflow_add-result-2
overflow_add-result-2 c = omega (arith, (here c).ordered, (here c).within, c.ranges.to.fits)

pub overflow_add-result-3 : goal.overflow_add-result-3
overflow_add-result-3 c = omega (arith, (here c).ordered, (here c).within, c.ranges.to.fits)

pub overflow_add-result-4 : goal.overflow_add-result-4
overflow_add-result-4 c = omega (arith, (here c).within, c.ranges.to.fits)

pub returns : goal.returns
returns c = here c
