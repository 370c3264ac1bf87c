use Rattle.std.proofs.lemmas.Bool.{false≢true}
use Rattle.write_groups.proofs.Same.{same_count}
use Rattle.write_groups.proofs.writer.are_same_trees.Goals as goal

pub returns-then-a-b : goal.returns-then-a-b
returns-then-a-b c = (λ h. absurd (false≢true h), λ e. absurd (c.if-a-b.true (same_count c.args.a.now c.args.b.now e)))
