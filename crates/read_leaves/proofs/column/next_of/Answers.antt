use Rattle.std.proofs.Common.{List, ℕ, subst, sym}
use Rattle.columns_core.specs.View.{type_view}
use Rattle.read_column.specs.Reading.{IsReading}
use Rattle.read_leaves.proofs.Pieces.{gives}
use Rattle.read_leaves.proofs.column.next_of.Goals as goal

pub returns-clause-gives : goal.returns-clause-gives
returns-clause-gives g c o pieces r =
    let reading = IsReading (λ (text : List ℕ). g.L.LeafReader.stored c.args.leaf.now text 0) g.L.LeafReader.byte_limit in
    gives reading g.L.LeafReader.slots (type_view c.args.data_type.now) o pieces c.next_piece.result c.piece_of.result c.next_piece.new.self c.piece_of.ensures (c.next_piece.ensures.gives o pieces (subst (λ x. reading o pieces x) (sym c.deref_mut.ensures.value) r))
