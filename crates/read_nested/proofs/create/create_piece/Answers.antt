use Rattle.std.proofs.Common.{sym, subst, List}
use Rattle.std.specs.Vec.Iter.{into_iter_items}
use Rattle.columns_core.specs.View.{type_view}
use Rattle.read_pieces.specs.declared.piece.ColumnPiece.{ColumnPiece}
use Rattle.read_nested.specs.Beneath.{ArePiecesBeneath}
use Rattle.read_nested.proofs.Put.{put, not-put}
use Rattle.read_nested.proofs.create.create_piece.Goals as goal

pub returns-clause-ok : goal.returns-clause-ok
returns-clause-ok c = λ above n tables es are.
    let P : List ColumnPiece → Type 0 = λ ps. ArePiecesBeneath above n (type_view c.args.data_type.now) tables es ps in
    put above n (type_view c.args.data_type.now) tables es (into_iter_items c.into_iter-left.result) (subst P (sym c.into_iter-left.ensures.rest) are) (into_iter_items c.create_type.new.pieces) c.create_type.result c.create_type.ensures.ok

pub returns-clause-err : goal.returns-clause-err
returns-clause-err c = λ above n tables es are.
    let P : List ColumnPiece → Type 0 = λ ps. ArePiecesBeneath above n (type_view c.args.data_type.now) tables es ps in
    not-put above n (type_view c.args.data_type.now) tables es (into_iter_items c.into_iter-left.result) (subst P (sym c.into_iter-left.ensures.rest) are) c.items_are_counted.ensures c.create_type.result c.create_type.ensures.err
