use Rattle.std.proofs.Common.{inl}
use Rattle.dictionary_leaves.specs.KeyColumns.{key_in, reader_in}
use Rattle.dictionary_leaves.proofs.FirstPage.{first-none, first-refused, first-some}
use Rattle.dictionary_leaves.proofs.first_page.open_taken.Goals as goal

pub returns-in-Ok : goal.returns-in-Ok
returns-in-Ok g c o t given u takes = first-some o t c.args.entries.now given (g.I.Pages.outcomes c.args.unread.pages) c.args.unread.nested.items c.args.unread.chunk_size c.args.unread.num_rows (g.I.Pages.lent c.args.unread.pages) c.in-Ok-Some.read c.key.result (key_in c.in-Ok.keys) (reader_in c.in-Ok.keys) c.key.ensures c.in-Ok.ensures.kind u takes (rw c.in-Ok-Some.field-0-is at c.in-Ok-Some.ensures) c.in-Ok.ensures.reads c.in-Ok.ensures.foreseen

pub returns-in-Err-over_keys : goal.returns-in-Err-over_keys
returns-in-Err-over_keys g c o t given u takes = inl c.in-Err-over_keys.ensures.err

pub returns-in-Ok-None : goal.returns-in-Ok-None
returns-in-Ok-None g c o t given u takes = first-none o t c.args.entries.now given (g.I.Pages.outcomes c.args.unread.pages) c.args.unread.nested.items c.args.unread.chunk_size c.args.unread.num_rows (g.I.Pages.lent c.args.unread.pages) u takes (rw c.in-Ok-None.field-0-is at c.in-Ok-None.ensures)

pub returns-in-Err : goal.returns-in-Err
returns-in-Err g c o t given u takes = first-refused o t c.args.entries.now given (g.I.Pages.outcomes c.args.unread.pages) c.args.unread.nested.items c.args.unread.chunk_size c.args.unread.num_rows (g.I.Pages.lent c.args.unread.pages) c.in-Err.error u takes c.in-Err.ensures
