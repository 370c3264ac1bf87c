use Rattle.sample_sizes.proofs.Entries.{arrays_have_no_entries}
use Rattle.sample_sizes.proofs.arrays_have_no_entries.Goals as goal

pub returns : goal.returns
returns c = arrays_have_no_entries
