use Rattle.std.proofs.Common.{◌∙◌}
use Rattle.read_walk.proofs.order.may_follow.Goals as goal

pub returns : goal.returns
returns c e = rw (c.of_bytes-reps.ensures ∙ c.narrowed.ensures, c.of_bytes-defs.ensures ∙ c.narrowed-2.ensures) at (c.told_follow.ensures e)
