use Rattle.rewrite_laws.proofs.Holding.{outputs_hold}
use Rattle.rewrite_laws.proofs.outputs_hold_their_rows.Goals as goal

pub returns : goal.returns
returns c = outputs_hold
