use Rattle.std.proofs.Common.{List, subst, arith}
use Rattle.columns_core.specs.Tree.{TypeTree}
use Rattle.shredding.specs.Shred.{Triple}
use Rattle.read_columns.specs.Columns.{IsReadingColumn}
use Rattle.read_pieces.specs.Columns.{ColumnOpening}
use Rattle.assembly.proofs.Stepping.{ended_on, all_whole, late}
use Rattle.assembly.proofs.pieces.expect_ends.Goals as goal

pub returns-in-Some-clause-err : goal.returns-in-Some-clause-err
returns-in-Some-clause-err g c = λ rows xs tables r b.
    late c.loop-column.column-index rows xs c.loop-column.column-items tables c.column-item.result c.next_piece.new.self c.in-Some.item c.reason_of.result
    (c.loop-column.invariant rows xs tables r b) (omega arith) c.column-item.is b
    (λ (o : ColumnOpening) (t : TypeTree) (pieces : List (List Triple)) (h : IsReadingColumn o t pieces c.column-item.result). c.in-Some.ensures o t pieces (subst (λ x. IsReadingColumn o t pieces x) c.column-item.is h))
    c.reason_of.ensures

pub loop-column-preserved : goal.loop-column-preserved
loop-column-preserved g c = λ rows xs tables r b.
    ended_on c.loop-column.column-index xs c.loop-column.column-items tables c.column-item.result c.next_piece.new.self (c.loop-column.invariant rows xs tables r b) (omega arith) c.column-item.is
    (λ (o : ColumnOpening) (t : TypeTree) (pieces : List (List Triple)) (h : IsReadingColumn o t pieces c.column-item.result). c.in_default.ensures o t pieces (subst (λ x. IsReadingColumn o t pieces x) c.column-item.is h))

pub returns-clause-ok : goal.returns-clause-ok
returns-clause-ok g c = λ rows xs tables r b. all_whole c.loop-column.column-index xs c.loop-column.column-items tables (c.loop-column.invariant rows xs tables r b) (omega arith)
