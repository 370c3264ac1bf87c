use Rattle.std.proofs.Common.{ℕ, arith, refl, ap, map, length}
use Rattle.std.proofs.lemmas.List.{length-map}
use Rattle.levels.specs.Stack.{left}
use Rattle.levels.specs.Stretch.{level_of}
use Rattle.shredding.specs.Slot.{truth}
use Rattle.std.proofs.Common.{true}
use Rattle.levels.proofs.Stacks.{CursorsFit-none, room_after-none, left-all}
use Rattle.levels.proofs.Columns.{length-column}
use Rattle.levels.proofs.iters.PathLevels.new.Goals as goal

pub put-requires-clause-fits : goal.put-requires-clause-fits
put-requires-clause-fits c = CursorsFit-none _ _ c.in_ok-stack.ensures.items

pub put-requires-clause-below : goal.put-requires-clause-below
put-requires-clause-below c = rw (room_after-none (length c.args.nested.now) c.in_ok-stack.stack.items c.in_ok-stack.ensures.items) (omega arith)

pub invariant_of-result : goal.invariant_of-result
invariant_of-result c =
    let values = λ (i : ℕ). truth true in
    let all = left-all c.args.nested.now _ c.in_ok-stack.stack.items c.put.new.stack.items c.in_ok-stack.ensures.items refl refl refl refl c.slot_count.ensures c.put.ensures.left in
    let pairs = length-column values c.args.nested.now in
    let few = c.requires.count values in
    let counted = c.num_values-remaining.ensures values in
    let whole = length-map (left c.put.new.stack.items) (level_of c.args.level) in
    (c.put.ensures.fits, c.put.ensures.room, rw (whole, all) (omega (arith, pairs, few, counted)))

pub returns-clause-ok : goal.returns-clause-ok
returns-clause-ok c = ap (map (level_of c.args.level)) (left-all c.args.nested.now _ c.in_ok-stack.stack.items c.put.new.stack.items c.in_ok-stack.ensures.items refl refl refl refl c.slot_count.ensures c.put.ensures.left)
