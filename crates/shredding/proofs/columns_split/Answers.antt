use Rattle.shredding.proofs.Splits.{splits}
use Rattle.shredding.proofs.columns_split.Goals as goal

pub returns : goal.returns
returns c = splits
