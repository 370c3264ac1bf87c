use Rattle.std.proofs.Common.{◌∙◌, ap, max}
use Rattle.level_sections.proofs.Told.{list_size-some}
use Rattle.level_sections.proofs.lists.pairs_at.Goals as goal

pub returns-clause-size : goal.returns-clause-size
returns-clause-size g c = λ is_optional mask there. c.max.ensures ∙ (ap (λ n. max n 1) (c.list_pairs.ensures is_optional mask there) ∙ list_size-some is_optional mask c.args.offsets.now c.args.i)
