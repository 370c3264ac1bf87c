use Rattle.schema_fb.specs.Proved.Whole.{flat_again}
use Rattle.schema_fb.proofs.laws.written_is_read.Goals as goal

pub returns : goal.returns
returns c = flat_again
