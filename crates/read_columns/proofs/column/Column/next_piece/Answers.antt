use Rattle.read_columns.proofs.column.Column.next_piece.Goals as goal

pub returns : goal.returns
returns g c o t pieces r = c.next_piece.ensures o t pieces (rw (← c.self.view_is) at r)
