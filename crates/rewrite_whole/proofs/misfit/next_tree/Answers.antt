use Rattle.std.proofs.Common.{refl, arith}
use Rattle.rewrite_whole.proofs.Misfitting.{nest_drop}
use Rattle.rewrite_whole.proofs.misfit.next_tree.Goals as goal

pub loop-i-init : goal.loop-i-init
loop-i-init c = record { left = refl; shallow = omega (arith, nest_drop c.args.from c.args.trees.now, c.requires.nesting) }
