use Rattle.level_sections.proofs.SlotLevels.{set-definition, set-repetition}
use Rattle.level_sections.proofs.pieces.set_first.Goals as goal

pub returns-in-Definition : goal.returns-in-Definition
returns-in-Definition c = λ front piece e size some. set-definition c.args.level c.args.depth _ front piece c.in-Definition.is e

pub returns-in-Repetition : goal.returns-in-Repetition
returns-in-Repetition c = λ front piece e size some. set-repetition c.args.level c.args.depth c.args.at c.args.told.now _ front piece c.in-Repetition.is c.set.ensures e size some
