use Rattle.schema_from_tree.proofs.Deep.{nest_as_trees}
use Rattle.schema_from_tree.proofs.laws.types_nest_as_trees.Goals as goal

pub returns : goal.returns
returns c = nest_as_trees
