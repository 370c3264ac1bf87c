use Rattle.std.proofs.Common.{arith}
use Rattle.read_walk.proofs.order.may_take.Goals as goal

pub returns : goal.returns
returns c e = record {
  rep_size = c.requires.reps;
  def_size = c.requires.defs;
  few = omega (arith, c.depth.ensures, c.if-depth-ge64.false);
  low = omega (arith, c.if-top-gt255.false);
  follow = c.told_follow.ensures e;
}
