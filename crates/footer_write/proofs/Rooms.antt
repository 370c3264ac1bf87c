-- The room of nodes in preorder is that of their trees.
use Rattle.std.proofs.Common.{◌≡◌, ◌+◌, [], ◌∷◌, length, None, refl, ◌∙◌, arith}
use Rattle.std.specs.List.{sum_by}
use Rattle.std.proofs.lemmas.List.Sums.{sum_by-append}
use Rattle.pq_tree.specs.Tree.{Tree, leaf, group, Trees, no_trees, tree, count_trees, preorder, preorder_of}
use Rattle.pq_files.specs.Room.{node_room, footer_room}
use Rattle.footer_write.specs.declared.types.ThriftFileMetaData.{ThriftFileMetaData}
use Rattle.footer_write.specs.FooterView.{footer_view}
use Rattle.footer_write.specs.Room.{tree_room, trees_room, walked_room}

mutual
  one_room : (t : Tree) → sum_by node_room (preorder t) ≡ tree_room t
  one_room (leaf info p) = omega arith
  one_room (group info ts) =
      let here : sum_by node_room (preorder (group info ts)) ≡ 0 + (128 + length info.name) + sum_by node_room (preorder_of ts) = sum_by-append node_room (record { physical = None; children = count_trees ts; info = info } ∷ []) (preorder_of ts) in
      omega (arith, here, nodes_room ts)

  pub nodes_room : (ts : Trees) → sum_by node_room (preorder_of ts) ≡ trees_room ts
  nodes_room no_trees = refl
  nodes_room (tree t ts) = sum_by-append node_room (preorder t) (preorder_of ts) ∙ (λ i. one_room t i + nodes_room ts i)

pub room_is : (m : ThriftFileMetaData) → footer_room (footer_view m) ≡ walked_room (footer_view m)
room_is m = omega (arith, nodes_room (footer_view m).schema.fields)
