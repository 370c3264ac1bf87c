use Rattle.typed_groups.proofs.Entries.{written}
use Rattle.typed_groups.proofs.laws.groups_are_written.Goals as goal

pub returns : goal.returns
returns c = written c.served_groups_are_laid.ensures
