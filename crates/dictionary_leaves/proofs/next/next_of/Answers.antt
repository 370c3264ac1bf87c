use Rattle.columns_array.specs.Boxed.{boxed}
use Rattle.columns_core.specs.View.{type_view}
use Rattle.dictionary_leaves.specs.KeyColumns.{key_in, reader_in}
use Rattle.dictionary_leaves.proofs.NextPiece.{entered_gives}
use Rattle.dictionary_leaves.proofs.next.next_of.Goals as goal

pub returns-clause-gives : goal.returns-clause-gives
returns-clause-gives g c o pieces x = entered_gives (record { pieces = c.pieces_are_entered.ensures; states = c.states_are_entered.ensures; whole = c.whole_is_entered.ensures; could = c.rows_could_be.ensures; refusals = c.refusals_are_entered.ensures }) o (type_view c.args.data_type.now) (key_in c.args.column.now) (boxed c.args.entries.now) pieces (reader_in c.args.column.now) (reader_in c.next_keys-item.new.self) c.next_keys-item.result c.piece_of.result x (rw c.len.ensures at c.next_keys-item.ensures.gives) c.piece_of.ensures
