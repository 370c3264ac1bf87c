use Rattle.std.proofs.Common.{◌-◌, length, refl, arith}
use Rattle.read_walk.proofs.Following.{last-pair}
use Rattle.read_walk.proofs.extend.last_of.Goals as goal

pub returns : goal.returns
returns c = last-pair c.args.before c.args.reps.now c.args.defs.now (length c.args.reps.now - 1) c.requires (omega (arith, c.if-reps-eq0.false)) refl
