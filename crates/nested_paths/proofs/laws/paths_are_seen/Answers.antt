use Rattle.nested_paths.proofs.Seen.{paths_are_seen}
use Rattle.nested_paths.proofs.laws.paths_are_seen.Goals as goal

pub returns : goal.returns
returns c = paths_are_seen
