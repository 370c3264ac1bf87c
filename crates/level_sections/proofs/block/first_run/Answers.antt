use Rattle.std.proofs.Common.{◌≡◌, ◌+◌, ◌∙◌, true, refl, arith}
use Rattle.levels.specs.Nested.{part_of, parts_of}
use Rattle.levels.specs.Levels.{bit}
use Rattle.level_sections.specs.Blocks.{part_optional, part_present}
use Rattle.level_sections.proofs.Blocks.{level-there, no_parts}
use Rattle.level_sections.proofs.block.first_run.Goals as goal

pub returns-in-Primitive-clause-even : goal.returns-in-Primitive-clause-even
returns-in-Primitive-clause-even c = λ i l h.
    let next = c.args.def + c.step_of.result in
    let there : part_present (part_of c.in-Some.part.now) i ≡ true = rw c.in-Primitive.is (c.there_end.ensures.there i l h) in
    let up : next ≡ c.args.def + bit (part_optional (part_of c.in-Some.part.now)) = rw (c.in-Primitive.is, c.step_of.ensures.value) refl in
    rw c.in-Some.ensures.cases.0 (level-there (part_of c.in-Some.part.now) (parts_of c.in-Some.rest.now) c.args.def next i there up ∙ no_parts c.in-Some.rest.now next i (omega (arith, c.if-rest-gt0.false)))
