use Rattle.columns_core.specs.View.{type_view}
use Rattle.read_leaves.specs.Kinds.{kind_in, reader_in}
use Rattle.read_leaves.proofs.Leaves.{leaf-gives}
use Rattle.read_leaves.proofs.leaf.LeafColumn.next_piece.Goals as goal

pub returns : goal.returns
returns g c o t pieces r =
    let before = rw (← c.self.view_is) at r in
    let column = c.self.inside.column in
    let after = c.next_piece.new.self in
    rw (← before.typed)
    (leaf-gives o (type_view c.self.inside.data_type) pieces (kind_in column) (kind_in after) (reader_in after) c.next_piece.result c.next_piece.ensures.kind c.self.invariant.0 (c.next_piece.ensures.gives o pieces before.reads))
