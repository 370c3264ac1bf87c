use Rattle.level_sections.proofs.PlaneNumbers.{joined-front, joined-back}
use Rattle.level_sections.proofs.planes.joined.Goals as goal

pub returns-clause-front : goal.returns-clause-front
returns-clause-front c = λ i h. joined-front c.args.word c.args.bits c.args.count i c.requires.few h

pub returns-clause-back : goal.returns-clause-back
returns-clause-back c = λ i h. joined-back c.args.word c.args.bits c.args.count i c.requires.few h
