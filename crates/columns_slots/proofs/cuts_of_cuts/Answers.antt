use Rattle.columns_slots.proofs.Rows.{cut_twice}
use Rattle.columns_slots.proofs.cuts_of_cuts.Goals as goal

pub returns : goal.returns
returns c = cut_twice
