use Rattle.write_groups.proofs.GroupLaid.{group_laid}
use Rattle.write_groups.proofs.laws.groups_are_laid.Goals as goal

pub returns : goal.returns
returns c = group_laid c.typed_columns_are_own.ensures
