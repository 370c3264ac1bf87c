use Rattle.std.proofs.Common.{◌∙◌, sym}
use Rattle.level_sections.proofs.Blocks.{level-required, no_parts}
use Rattle.level_sections.proofs.block.are_required.Goals as goal

pub loop-part-preserved : goal.loop-part-preserved
loop-part-preserved c = λ def i. c.loop-part.invariant def i ∙ rw c.in-Some.ensures.cases.0 (level-required _ _ def i (sym c.is_optional.ensures ∙ c.if-is_optional.false))

pub returns : goal.returns
returns c = λ is def i. c.loop-part.invariant def i ∙ no_parts c.loop-part.rest.now def i c.in_default.ensures.cases
