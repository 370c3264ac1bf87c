use Rattle.std.proofs.Common.{◌≡◌, drop, map}
use Rattle.pq_tree.specs.TreeReading.{counted}
use Rattle.pq_tree.specs.Views.{element_view}
use Rattle.pq_tree.proofs.trees.is_preorder.Given as goal

abbrev pub invariant-loop-element : goal.invariant-loop-element
invariant-loop-element l = counted l.pending (map element_view (drop l.element-index l.elements)) ≡ counted l.count (map element_view l.elements)
