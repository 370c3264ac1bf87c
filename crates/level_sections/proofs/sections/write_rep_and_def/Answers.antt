use Rattle.std.proofs.Common.{ℕ, true}
use Rattle.shredding.specs.Slot.{truth}
use Rattle.level_sections.proofs.Both.{few_pairs, sections_of}
use Rattle.level_sections.proofs.sections.write_rep_and_def.Goals as goal

pub push_both-requires-clause-few : goal.push_both-requires-clause-few
push_both-requires-clause-few c =
    let values = λ (i : ℕ). truth true in
    few_pairs values c.args.nested.now (c.are_too_many.ensures.few values c.if-are_too_many.false)

pub returns-in-Ok-clause-ok : goal.returns-in-Ok-clause-ok
returns-in-Ok-clause-ok c = λ values. sections_of values c.args.page_version c.args.nested.now c.args.buffer.now.items c.push_both.new.buffer.items c.in-Ok.sizes.0 c.in-Ok.sizes.1 c.requires.well c.requires.parts c.in-Ok.ensures.ok
