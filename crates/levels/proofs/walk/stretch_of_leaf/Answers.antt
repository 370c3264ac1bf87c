use Rattle.std.proofs.Common.{◌∙◌}
use Rattle.levels.proofs.Stretches.{any_leaves, full_leaves, null_leaves}
use Rattle.levels.proofs.walk.stretch_of_leaf.Goals as goal

pub returns-in-Repetition : goal.returns-in-Repetition
returns-in-Repetition c = λ parts n. any_leaves _ _ _ _ _ _ parts n c.in-Repetition.is c.requires.some

pub returns-then-there : goal.returns-then-there
returns-then-there c =
    let e = c.alike-there.ensures in
    λ parts n. full_leaves _ _ _ _ _ _ _ parts n _ (λ i low high. e.alike i low high ∙ c.if-there.true) c.bit.ensures e.after e.within

pub returns-else-there : goal.returns-else-there
returns-else-there c =
    let e = c.alike-there.ensures in
    λ parts n. null_leaves _ _ _ _ _ _ _ parts n (λ i low high. e.alike i low high ∙ c.if-there.false) e.after e.within
