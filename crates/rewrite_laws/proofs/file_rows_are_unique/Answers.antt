use Rattle.rewrite_laws.proofs.Unique.{unique}
use Rattle.rewrite_laws.proofs.file_rows_are_unique.Goals as goal

pub returns : goal.returns
returns c = unique
