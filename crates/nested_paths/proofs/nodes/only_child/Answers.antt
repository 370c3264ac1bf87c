use Rattle.std.proofs.Common.{None, sym, ap, ◌∙◌}
use Rattle.nested_paths.specs.Nodes.{given, only_tree}
use Rattle.nested_paths.proofs.Walks.{not_one}
use Rattle.nested_paths.proofs.nodes.only_child.Goals as goal

pub returns-then-children-ne1 : goal.returns-then-children-ne1
returns-then-children-ne1 c = sym (not_one c.in_ok-children.children.now c.if-children-ne1.true) ∙ ap (given None only_tree) c.in_ok-children.ensures
