use Rattle.rewrite_laws.proofs.InARow.{keep}
use Rattle.rewrite_laws.proofs.rewrites_keep_rows.Goals as goal

pub returns : goal.returns
returns c = keep
