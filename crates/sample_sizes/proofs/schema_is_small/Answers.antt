use Rattle.sample_sizes.proofs.Rooms.{schema_is_small}
use Rattle.sample_sizes.proofs.schema_is_small.Goals as goal

pub returns : goal.returns
returns c = schema_is_small
