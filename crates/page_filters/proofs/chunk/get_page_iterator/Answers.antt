use Rattle.page_filters.specs.Filters.{keeping}
use Rattle.page_filters.proofs.Chunks.{opens_kept}
use Rattle.page_filters.proofs.chunk.get_page_iterator.Goals as goal

pub returns-in-Ok-clone-clause-ok : goal.returns-in-Ok-clone-clause-ok
returns-in-Ok-clone-clause-ok g c =
    opens_kept c.args.file.now c.args.column_metadata.now c.args.max_header_size (keeping g.F.PageFilter.keeps c.args.pages_filter) c.in-Some.column c.in-Ok-clone.column c.in-Ok.pages c.new.result c.in-Ok.ensures.ok c.in-Some.is c.in-Ok-clone.ensures.same c.new.ensures
