use Rattle.write_groups.proofs.Laid.{laid}
use Rattle.write_groups.proofs.laws.columns_are_laid.Goals as goal

pub returns : goal.returns
returns c = laid
