use Rattle.levels.specs.Stack.{front_levels}
use Rattle.levels.proofs.Stacks.{taken}
use Rattle.levels.proofs.cursors.take.Goals as goal

pub returns-clause-gives : goal.returns-clause-gives
returns-clause-gives c =
    taken c.args.level c.in_ok-cursor.cursor c.args.stack.now.items c.pop.new.stack.items c.descend.new.stack.items (front_levels c.descend.result) c.in_ok-cursor.ensures.left c.descend.ensures.front
