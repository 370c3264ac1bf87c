use Rattle.std.proofs.Common.{◌++◌, ◌∙◌, sym, subst}
use Rattle.sample_rows.proofs.Counted.{list_numbers_at}
use Rattle.sample_rows.proofs.count.add_row.Goals as goal
use Rattle.sample_rows.specs.Parts.{numbers_tree}
use Rattle.sample_rows.specs.Totals.{AreOf}

pub returns-clause-are : goal.returns-clause-are
returns-clause-are c = λ zs h.
    let r = c.range_of-first in
    let e = list_numbers_at c.args.lists.now (numbers_tree c.args.numbers.now) c.args.row r.result.0 r.result.1 c.know.ensures.parts (sym c.has_list.ensures ∙ c.if-not-has_list.false) c.requires.items r.ensures.first r.ensures.count in
    subst (λ ns. AreOf c.add_items.result (zs ++ ns)) (sym e) (c.add_items.ensures.are zs h)
