use Rattle.std.proofs.Common.{ap, ◌∙◌}
use Rattle.pq_pages.specs.Split.{sections}
use Rattle.read_column.specs.Opened.{first_goes_on}
use Rattle.read_column.proofs.Widths.{pairs-same}
use Rattle.read_column.proofs.page.OpenPage.pairs_and_first.Goals as goal

pub returns-in-Ok-pairs : goal.returns-in-Ok-pairs
returns-in-Ok-pairs c =
    let page = c.args.self.now in
    (c.in-Ok-pairs.ensures, c.goes_on-goes_on.ensures ∙ ap first_goes_on (pairs-same (sections page.repetitions.now page.definitions.now page.values.now) page.max_repetition page.max_definition page.count c.in-Ok.first c.in-Ok-pairs.pairs c.in-Ok.ensures c.in-Ok-pairs.ensures))
