use Rattle.std.proofs.Common.{sym}
use Rattle.read_column.proofs.Present.{equal_levels, other_levels}
use Rattle.read_column.proofs.deltas.count_copies.Goals as goal

pub returns-then-copied-level : goal.returns-then-copied-level
returns-then-copied-level c = sym (equal_levels c.args.level c.args.copied c.args.copies c.if-copied-level.true)

pub returns-else-copied-level : goal.returns-else-copied-level
returns-else-copied-level c = sym (other_levels c.args.level c.args.copied c.args.copies c.if-copied-level.false)
