use Rattle.std.proofs.Common.{rules}
use Rattle.schema_to_tree.proofs.Joined.{tree_leaf, fault_leaf}
use Rattle.schema_to_tree.proofs.trees.leaf_tree.Goals as goal

pub returns : goal.returns
returns c = rw (tree_leaf _ _ c.requires, fault_leaf _ c.requires) (search rules)
