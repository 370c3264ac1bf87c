use Rattle.std.proofs.Common.{sym, subst, List}
use Rattle.std.proofs.lemmas.Result.{err_from_is_err_and}
use Rattle.std.specs.Vec.Iter.{into_iter_items}
use Rattle.columns_core.specs.View.{field_view}
use Rattle.columns_array.specs.Boxed.{boxed}
use Rattle.read_pieces.specs.Pieces.{leaf_types, ArePiecesOf}
use Rattle.read_pieces.specs.declared.piece.ColumnPiece.{ColumnPiece}
use Rattle.pq_headline.specs.Columns.{field_columns}
use Rattle.read_nested.proofs.Array.{array-of}
use Rattle.read_nested.proofs.Failed.{field-failed}
use Rattle.read_nested.proofs.create.create_array.Goals as goal

pub returns-in_err-piece-clause-err : goal.returns-in_err-piece-clause-err
returns-in_err-piece-clause-err c = λ tables es flat are.
    let P : List ColumnPiece → Type 0 = λ ps. ArePiecesOf (field_columns (field_view c.args.field.now)) (leaf_types (field_view c.args.field.now)) tables es ps in
    let p = err_from_is_err_and c.from_residual.result c.from_residual.ensures.1 in
    rw (p.1, p.2) (field-failed c.items_are_counted.ensures (field_view c.args.field.now) tables es (into_iter_items c.into_iter-left.result) _ c.requires.structs flat c.in_err-piece.ensures.err (subst P (sym c.into_iter-left.ensures.rest) are))

pub returns-clause-ok : goal.returns-clause-ok
returns-clause-ok c = λ tables es flat are.
    let P : List ColumnPiece → Type 0 = λ ps. ArePiecesOf (field_columns (field_view c.args.field.now)) (leaf_types (field_view c.args.field.now)) tables es ps in
    array-of (field_view c.args.field.now) tables es (into_iter_items c.into_iter-left.result) (into_iter_items c.create_field.new.pieces) (boxed c.in_ok-piece.piece.values) c.in_ok-piece.piece.nested c.requires.structs flat c.in_ok-piece.ensures.ok (subst P (sym c.into_iter-left.ensures.rest) are) c.know_slots.ensures
