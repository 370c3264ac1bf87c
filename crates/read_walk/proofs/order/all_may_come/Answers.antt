use Rattle.std.proofs.Common.{arith, inl, inr}
use Rattle.read_walk.proofs.Folding.{ones-set}
use Rattle.read_walk.proofs.Following.{of-either}
use Rattle.read_walk.proofs.order.all_may_come.Goals as goal

pub loop-known-preserved : goal.loop-known-preserved
loop-known-preserved c = record {
  may = λ k h e. elim (of-either c.loop-known.known c.list_word-known.result k e) [ inl a ↦ c.loop-known.invariant.may k h a | inr b ↦ c.list_word-known.ensures k h b ];
  few = omega (arith, c.loop-known.invariant.few);
}

pub returns : goal.returns
returns c e k h = c.loop-known.invariant.may k h (ones-set c.loop-known.known k e h)
