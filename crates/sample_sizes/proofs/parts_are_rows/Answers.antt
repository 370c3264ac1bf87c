use Rattle.sample_sizes.proofs.Samples.{parts_are_rows}
use Rattle.sample_sizes.proofs.parts_are_rows.Goals as goal

pub returns : goal.returns
returns c = parts_are_rows
