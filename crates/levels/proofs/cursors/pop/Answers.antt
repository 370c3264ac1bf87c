use Rattle.std.proofs.Common.{arith}
use Rattle.levels.proofs.Stacks.{popped-fits, popped-cursor, popped-below, popped-left, popped-none}
use Rattle.levels.proofs.cursors.pop.Goals as goal

pub returns-clause-fits : goal.returns-clause-fits
returns-clause-fits c = popped-fits c.args.room c.args.stack.now.items c.pop.new.self.items c.pop.result c.requires.fits c.pop.ensures.items

pub returns-clause-cursor : goal.returns-clause-cursor
returns-clause-cursor c = popped-cursor c.args.room c.args.stack.now.items c.pop.new.self.items c.pop.result c.requires.fits c.pop.ensures.items

pub returns-clause-below : goal.returns-clause-below
returns-clause-below c = popped-below c.args.room c.args.stack.now.items c.pop.new.self.items c.pop.result c.requires.fits c.pop.ensures.items

pub returns-clause-left : goal.returns-clause-left
returns-clause-left c = popped-left c.args.stack.now.items c.pop.new.self.items c.pop.result c.pop.ensures.items

pub returns-clause-none : goal.returns-clause-none
returns-clause-none c = popped-none c.args.stack.now.items c.pop.new.self.items _ _ c.pop.result _ (omega arith) (omega arith) c.pop.ensures.cases
