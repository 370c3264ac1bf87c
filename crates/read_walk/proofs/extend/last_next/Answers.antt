use Rattle.std.proofs.Common.{Some, arith, ap, sym, ◌∙◌}
use Rattle.read_walk.proofs.Following.{last-pair}
use Rattle.read_walk.proofs.extend.last_next.Goals as goal

pub returns-then-told : goal.returns-then-told
returns-then-told c =
    let sizes = c.requires.told c.if-told.true in
    rw c.if-told.true (ap Some c.last.ensures ∙ last-pair c.args.before c.args.reps.now c.args.defs.now 63 (sizes.1 ∙ sym sizes.0) (omega (arith, sizes.0)) (omega (arith, sizes.0)))
