use Rattle.std.proofs.Common.{sym}
use Rattle.level_sections.proofs.Walked.{definitions-like, repetitions-like}
use Rattle.level_sections.proofs.Bytes.{told-as}
use Rattle.level_sections.proofs.tell.tell_pairs.Goals as goal

pub returns-in-Definition : goal.returns-in-Definition
returns-in-Definition c = λ t. told-as _ _ _ _ (sym (definitions-like c.args.level c.args.above.rep c.args.above.depth c.args.above.def c.args.count c.in-Definition.is)) (c.push_copies.ensures t)

pub returns-in-Repetition : goal.returns-in-Repetition
returns-in-Repetition c = λ t. told-as _ _ _ _ (sym (repetitions-like c.args.level c.args.above.rep c.args.above.depth c.args.above.def c.args.count c.in-Repetition.is c.requires.some)) (c.push_first.ensures t)
