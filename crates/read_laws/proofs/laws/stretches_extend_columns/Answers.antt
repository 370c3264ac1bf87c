use Rattle.read_laws.proofs.Stretches.{stretched}
use Rattle.read_laws.proofs.laws.stretches_extend_columns.Goals as goal

pub returns : goal.returns
returns c = stretched
