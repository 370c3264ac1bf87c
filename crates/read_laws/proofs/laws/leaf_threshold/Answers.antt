use Rattle.read_laws.proofs.Thresholds.{threshold}
use Rattle.read_laws.proofs.laws.leaf_threshold.Goals as goal

pub returns : goal.returns
returns c = threshold
