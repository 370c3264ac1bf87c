use Rattle.schema_codec.specs.Proved.Whole.{plain_again}
use Rattle.schema_codec.proofs.laws.written_is_read.Goals as goal

pub returns : goal.returns
returns c = plain_again
