use Rattle.std.proofs.Common.{rules, ◌∙◌, ◌++◌, ◌∷◌, [], List, Some, length, slice_set, ◌+◌, ap, sym, subst, arith}
use Rattle.std.proofs.lemmas.List.{length-append}
use Rattle.columns_core.specs.Tree.{TypeTree}
use Rattle.shredding.specs.Shred.{Triple}
use Rattle.read_columns.specs.Columns.{IsColumnPiece, IsReadingColumn}
use Rattle.read_pieces.specs.Columns.{ColumnOpening, GivesPiece}
use Rattle.assembly.specs.Lanes.{AreReading, AreStepped, TakesPieces}
use Rattle.assembly.proofs.Stepping.{stepped, taken, refused, still_open, whole_back, memory_refused}
use Rattle.assembly.proofs.pieces.next_pieces.Goals as goal

pub returns-in-Some-Err-clause-err : goal.returns-in-Some-Err-clause-err
returns-in-Some-Err-clause-err g c = λ before rows xs tables r b less.
    let at = c.loop-column.invariant.stepped before rows xs tables r b less in
    refused before rows xs c.loop-column.column-items c.loop-column.pieces.items at.0 tables c.loop-column.column-index c.column-item.result c.in-Some-Err.error
    at.1 (sym c.loop-column.invariant.counted) (omega arith) c.column-item.is b
    (λ (o : ColumnOpening) (t : TypeTree) (pieces : List (List Triple)) (h : IsReadingColumn o t pieces c.column-item.result).
    subst (λ x. GivesPiece (λ y ps q. IsReadingColumn y t ps q) (λ p ts. IsColumnPiece o t ts p) o pieces (Some x) c.next_piece.new.self) c.in-Some-Err.field-0-is (c.in-Some-Err.ensures o t pieces (subst (λ x. IsReadingColumn o t pieces x) c.column-item.is h)))

pub returns-in-None-clause-err : goal.returns-in-None-clause-err
returns-in-None-clause-err g c = λ before rows xs tables r b less.
    let at = c.loop-column.invariant.stepped before rows xs tables r b less in
    absurd (still_open before rows xs c.loop-column.column-items c.loop-column.pieces.items at.0 tables c.loop-column.column-index c.column-item.result
    at.1 (sym c.loop-column.invariant.counted) (omega arith) c.column-item.is b less
    (λ (o : ColumnOpening) (t : TypeTree) (pieces : List (List Triple)) (h : IsReadingColumn o t pieces c.column-item.result). c.in-None.ensures o t pieces (subst (λ x. IsReadingColumn o t pieces x) c.column-item.is h)))

pub returns-in_err-push-in-Some-Ok-clause-err : goal.returns-in_err-push-in-Some-Ok-clause-err
returns-in_err-push-in-Some-Ok-clause-err g c = λ before rows xs tables r b less. memory_refused c.from_residual.result xs (search rules)

pub loop-column-preserved : goal.loop-column-preserved
loop-column-preserved g c = record {
  counted = ap length c.in_ok-push-in-Some-Ok.ensures.items ∙ length-append c.loop-column.pieces.items (c.in-Some-Ok.piece ∷ []) ∙ ap (λ k. k + 1) c.loop-column.invariant.counted;
  stepped = λ before rows xs tables r b less.
      let at = c.loop-column.invariant.stepped before rows xs tables r b less in
      let more = stepped before rows xs c.loop-column.column-items c.loop-column.pieces.items at.0 tables c.loop-column.column-index c.column-item.result c.next_piece.new.self c.in-Some-Ok.piece
      at.1 (sym c.loop-column.invariant.counted) (omega arith) c.column-item.is b
      (λ (o : ColumnOpening) (t : TypeTree) (pieces : List (List Triple)) (h : IsReadingColumn o t pieces c.column-item.result).
      subst (λ x. GivesPiece (λ y ps q. IsReadingColumn y t ps q) (λ p ts. IsColumnPiece o t ts p) o pieces (Some x) c.next_piece.new.self) c.in-Some-Ok.field-0-is (c.in-Some-Ok.ensures o t pieces (subst (λ x. IsReadingColumn o t pieces x) c.column-item.is h))) in
      (at.0 ++ more.0 ∷ [], subst (λ ps. AreStepped 0 before xs (slice_set c.loop-column.column-items c.loop-column.column-index c.next_piece.new.self) ps (at.0 ++ more.0 ∷ []) tables) (sym c.in_ok-push-in-Some-Ok.ensures.items) more.1);
}

pub returns-clause-ok : goal.returns-clause-ok
returns-clause-ok g c = λ before rows xs tables r b less.
    let at = c.loop-column.invariant.stepped before rows xs tables r b less in
    subst (λ rs. TakesPieces before xs tables c.loop-column.pieces.items rs) (sym (whole_back c.args.columns.now.len c.loop-column.column-items c.args.columns.now.items (omega arith) (omega arith)))
    (taken before xs c.loop-column.column-items c.loop-column.pieces.items at.0 tables at.1 (omega (arith, c.loop-column.invariant.counted)))

pub loop-column-init : goal.loop-column-init
loop-column-init g c = record {
  counted = ap length c.new-pieces.ensures.items;
  stepped = λ before rows xs tables r b less.
      ([], subst (λ ps. AreStepped 0 before xs c.deref_mut-column-items.result.now ps [] tables) (sym c.new-pieces.ensures.items) (subst (λ rs. AreReading 0 xs rs tables) (sym c.deref_mut-column-items.ensures.value) r));
}
