use Rattle.columns_slots.proofs.Rows.{is_cut}
use Rattle.columns_slots.proofs.cuts_are_of_slots.Goals as goal

pub returns : goal.returns
returns c = is_cut
