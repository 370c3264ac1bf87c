use Rattle.std.proofs.Common.{List, ℕ, ◌++◌, ◌∙◌, ap, arith, drop, take}
use Rattle.level_sections.proofs.SlotLevels.{take-few, take-less}
use Rattle.level_sections.proofs.level_bytes.put_some.Goals as goal

pub returns-clause-front : goal.returns-clause-front
returns-clause-front c =
    take-few c.args.at c.args.count 16 c.args.places.now c.put_few.new.places c.sixteen_at.result c.if-count-gt16.false (omega (arith, c.requires.room)) c.put_few.ensures.front
    ∙ ap (λ (xs : List ℕ). take c.args.at c.args.places.now ++ xs) (ap (take c.args.count) c.sixteen_at.ensures ∙ take-less c.args.count 16 (drop c.args.from c.args.others.now) c.if-count-gt16.false)
