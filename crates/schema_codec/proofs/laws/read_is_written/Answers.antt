use Rattle.schema_codec.specs.Proved.Whole.{plain_takes}
use Rattle.schema_codec.proofs.laws.read_is_written.Goals as goal

pub returns : goal.returns
returns c = plain_takes
