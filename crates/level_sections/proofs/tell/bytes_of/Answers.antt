use Rattle.std.proofs.Common.{◌*◌, ◌∙◌, ap, arith, sym, take}
use Rattle.std.proofs.lemmas.List.{take-take}
use Rattle.level_sections.proofs.Bytes.{low-front, low-more}
use Rattle.level_sections.proofs.PlaneNumbers.{planes-none}
use Rattle.level_sections.proofs.tell.bytes_of.Goals as goal

pub loop-i-init : goal.loop-i-init
loop-i-init c = record {
  size = omega arith;
  front = sym (planes-none c.args.low c.args.planes 0 (4 * 0) (omega arith));
}

pub loop-i-preserved : goal.loop-i-preserved
loop-i-preserved c = record {
  size = c.put_four.ensures.len ∙ c.loop-i.invariant.size;
  front = low-more c.args.low c.args.planes c.loop-i.i c.loop-i.bytes c.put_four.new.places c.to_le_bytes.result c.loop-i.invariant.front c.put_four.ensures.front (c.to_le_bytes.ensures ∙ c.four_levels.ensures);
}

pub returns : goal.returns
returns c = sym (take-take c.args.count (4 * c.loop-i.i) c.loop-i.bytes (omega arith)) ∙ (ap (take c.args.count) c.loop-i.invariant.front ∙ low-front c.args.low c.args.planes 0 c.args.count (4 * c.loop-i.i) (omega arith))
