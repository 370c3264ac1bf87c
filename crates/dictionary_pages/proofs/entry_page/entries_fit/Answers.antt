use Rattle.std.proofs.Common.{◌≤◌, ◌∙◌, true≢false, sym, arith}
use Rattle.columns_array.specs.Boxed.{boxed}
use Rattle.pq_tree.specs.Views.{physical_view}
use Rattle.pq_files.specs.Room.{room, max_size}
use Rattle.dictionary_pages.proofs.Named.{stored_count}
use Rattle.dictionary_pages.proofs.entry_page.entries_fit.Goals as goal

pub returns-clause-past : goal.returns-clause-past
returns-clause-past c = λ no.
    let n : ¬ (room c.len.result c.entries_size.result ≤ max_size) = λ h. true≢false (sym (c.has_room.ensures.1 h) ∙ no) in
    omega (arith, n, c.len.ensures, c.entries_size.ensures, stored_count (boxed c.args.entries.now) (physical_view c.args.physical_type))
