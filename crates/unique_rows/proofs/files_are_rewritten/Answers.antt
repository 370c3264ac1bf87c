use Rattle.unique_rows.proofs.Rewritten.{files_are_rewritten}
use Rattle.unique_rows.proofs.files_are_rewritten.Goals as goal

pub returns : goal.returns
returns c = files_are_rewritten
