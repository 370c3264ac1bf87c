use Rattle.schema_map.proofs.Counts.{leaves_are_counted}
use Rattle.schema_map.proofs.laws.leaves_are_counted.Goals as goal

pub returns : goal.returns
returns c = leaves_are_counted
