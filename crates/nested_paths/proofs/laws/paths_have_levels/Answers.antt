use Rattle.nested_paths.proofs.Levels.{have_levels}
use Rattle.nested_paths.proofs.laws.paths_have_levels.Goals as goal

pub returns : goal.returns
returns c = have_levels
