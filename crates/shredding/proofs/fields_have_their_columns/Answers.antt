use Rattle.shredding.proofs.Schema.{own_columns}
use Rattle.shredding.proofs.fields_have_their_columns.Goals as goal

pub returns : goal.returns
returns c = own_columns
