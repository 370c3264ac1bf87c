use Rattle.pq_files.proofs.WorkedLayout.{are_laid}
use Rattle.pq_files.proofs.examples.layouts_are_worked.Goals as goal

pub returns : goal.returns
returns c = are_laid
