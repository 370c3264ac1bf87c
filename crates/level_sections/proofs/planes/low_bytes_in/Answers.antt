use Rattle.std.proofs.Common.{◌*◌, ◌∙◌, arith, sym}
use Rattle.level_sections.proofs.PlaneNumbers.{four-more, planes-none}
use Rattle.level_sections.proofs.planes.low_bytes_in.Goals as goal

pub loop-i-init : goal.loop-i-init
loop-i-init c = record {
  size = omega arith;
  front = sym (planes-none 0 c.args.planes 0 (4 * 0) (omega arith));
}

pub loop-i-preserved : goal.loop-i-preserved
loop-i-preserved c = record {
  size = c.put_four.ensures.len ∙ c.loop-i.invariant.size;
  front = four-more c.args.planes c.loop-i.i c.loop-i.bytes c.put_four.new.places c.to_le_bytes.result c.loop-i.invariant.front c.put_four.ensures.front (c.to_le_bytes.ensures ∙ c.low_four_at.ensures);
}
