use Rattle.std.proofs.Common.{◌*◌, ◌∙◌, arith, sym}
use Rattle.pq_runs.proofs.SpreadBits.{four-more, numbers-none}
use Rattle.pq_runs.proofs.words.narrow_numbers_of.Goals as goal

pub loop-i-init : goal.loop-i-init
loop-i-init c = record {
  size = omega arith;
  front = sym (numbers-none c.args.low c.args.word 0 (4 * 0) (omega arith));
}

pub loop-i-preserved : goal.loop-i-preserved
loop-i-preserved c = record {
  size = c.put_four.ensures.len ∙ c.loop-i.invariant.size;
  front = four-more c.args.low c.args.word c.loop-i.i c.loop-i.numbers c.put_four.new.places c.to_le_bytes.result c.loop-i.invariant.front c.put_four.ensures.front (c.to_le_bytes.ensures ∙ c.four_at.ensures);
}
