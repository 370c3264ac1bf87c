use Rattle.std.proofs.Common.{arith}
use Rattle.columns_core.proofs.Words.{run_more}
use Rattle.columns_core.proofs.bit_words.run_end_in.Goals as goal

pub returns-then-count-lt64-clause-alike : goal.returns-then-count-lt64-clause-alike
returns-then-count-lt64-clause-alike c =
    run_more c.args.bytes.now c.args.from c.loop-end.end c.run_in_word-count.result c.word_in.result c.args.value c.loop-end.invariant.alike c.word_in.ensures c.run_in_word-count.ensures.alike c.run_in_word-count.ensures.within

pub returns-then-count-to-clause-alike : goal.returns-then-count-to-clause-alike
returns-then-count-to-clause-alike c =
    λ i a b.
    run_more c.args.bytes.now c.args.from c.loop-end.end c.run_in_word-count.result c.word_in.result c.args.value c.loop-end.invariant.alike c.word_in.ensures c.run_in_word-count.ensures.alike c.run_in_word-count.ensures.within i a
    (omega (arith, b, c.if-count-to.true, c.loop-end.invariant.within))

pub loop-end-preserved : goal.loop-end-preserved
loop-end-preserved c = record {
  after = omega (arith, c.loop-end.invariant.after);
  within = omega (arith, c.loop-end-test.true, c.run_in_word-count.ensures.within);
  alike = run_more c.args.bytes.now c.args.from c.loop-end.end c.run_in_word-count.result c.word_in.result c.args.value c.loop-end.invariant.alike c.word_in.ensures c.run_in_word-count.ensures.alike c.run_in_word-count.ensures.within;
}
