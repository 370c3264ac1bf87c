use Rattle.pq_files.proofs.WorkedReasons.{are_reasons}
use Rattle.pq_files.proofs.examples.reasons_are_worked.Goals as goal

pub returns : goal.returns
returns c = are_reasons
