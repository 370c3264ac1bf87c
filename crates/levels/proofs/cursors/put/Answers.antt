use Rattle.std.proofs.Common.{rules, refl, arith}
use Rattle.levels.specs.Stack.{CursorFits}
use Rattle.levels.proofs.Stacks.{left-push, CursorsFit-push, room_after-push, length-CursorsFit, cursor_pairs-none, some_part}
use Rattle.levels.proofs.cursors.put.Goals as goal

pub unreachable-requires : goal.unreachable-requires
unreachable-requires c =
    let count = length-CursorsFit c.args.room c.args.stack.now.items c.requires.fits in
    let some = some_part c.args.cursor.parts.now c.requires.well in
    search (rules, count, some)

pub returns-in-Ok-clause-fits : goal.returns-in-Ok-clause-fits
returns-in-Ok-clause-fits c =
    let fits : CursorFits c.args.cursor = record { well = c.requires.well; some = omega arith; within = c.requires.within; low = c.requires.low } in
    rw c.in-Ok.ensures.items (CursorsFit-push c.args.room c.args.stack.now.items c.args.cursor c.requires.fits c.requires.below fits)

pub returns-in-Ok-clause-below : goal.returns-in-Ok-clause-below
returns-in-Ok-clause-below c =
    let some = some_part c.args.cursor.parts.now c.requires.well in
    let e = room_after-push c.args.room c.args.stack.now.items c.args.cursor in
    rw (c.in-Ok.ensures.items, e) (omega arith)

pub returns-in-Ok-clause-left : goal.returns-in-Ok-clause-left
returns-in-Ok-clause-left c = rw c.in-Ok.ensures.items (left-push c.args.stack.now.items c.args.cursor)

pub returns-else-cursor-clause-left : goal.returns-else-cursor-clause-left
returns-else-cursor-clause-left c = rw (cursor_pairs-none c.args.cursor (omega arith)) refl
