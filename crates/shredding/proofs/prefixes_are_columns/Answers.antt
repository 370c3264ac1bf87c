use Rattle.shredding.proofs.Prefixes.{prefixes}
use Rattle.shredding.proofs.prefixes_are_columns.Goals as goal

pub returns : goal.returns
returns c = prefixes
