use Rattle.columns_core.specs.View.{type_view}
use Rattle.dictionary_leaves.specs.KeyColumns.{key_in}
use Rattle.dictionary_leaves.proofs.Going.{gone-on}
use Rattle.dictionary_leaves.proofs.column.DictionaryColumn.go_on.Goals as goal

pub returns-in-Some-Ok : goal.returns-in-Some-Ok
returns-in-Some-Ok g c o pieces opened =
    let before = rw (← c.self.view_is) at opened in
    let given = rw (c.in-Some-Ok.is, c.in-Some-Ok.field-0-is) at c.next_of.ensures.gives o pieces before in
    rw (← c.self.view_is) (gone-on g.I.Pages.outcomes o (type_view c.self.inside.data_type) c.self.inside.entries (key_in c.args.opened.keys) pieces (record { keys = c.next_of.new.column; entries = c.args.opened.entries }) c.in-Some-Ok.piece c.next_of.ensures.kind given)

pub returns-in-Some-Err : goal.returns-in-Some-Err
returns-in-Some-Err g c o pieces opened =
    let before = rw (← c.self.view_is) at opened in
    rw (c.in-Some-Err.is, c.in-Some-Err.field-0-is) at c.next_of.ensures.gives o pieces before

pub returns-in-None : goal.returns-in-None
returns-in-None g c o pieces opened =
    let before = rw (← c.self.view_is) at opened in
    rw c.in-None.is at c.next_of.ensures.gives o pieces before
