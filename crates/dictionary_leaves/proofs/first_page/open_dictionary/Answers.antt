use Rattle.dictionary_leaves.proofs.Opened.{source-refused}
use Rattle.dictionary_leaves.proofs.first_page.open_dictionary.Goals as goal

pub returns-in-Ok : goal.returns-in-Ok
returns-in-Ok g c o t u = c.open_taken.ensures o t (g.I.Pages.outcomes c.args.unread.pages) u c.in-Ok.ensures

pub returns-in-Err : goal.returns-in-Err
returns-in-Err g c o t u = source-refused o t c.args.entries.now (g.I.Pages.outcomes c.args.unread.pages) (g.I.Pages.outcomes c.advance.new.self) c.args.unread.nested.items c.args.unread.chunk_size c.args.unread.num_rows (g.I.Pages.lent c.advance.new.self) c.in-Err.error u c.in-Err.ensures
