use Rattle.nested_slice.proofs.Rows.{cuts_are_rows}
use Rattle.nested_slice.proofs.laws.cuts_are_rows.Goals as goal

pub returns : goal.returns
returns c = cuts_are_rows
