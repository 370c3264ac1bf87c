use Rattle.std.proofs.Common.{◌≤◌, ◌<◌, get_or, arith, sym, ◌∙◌}
use Rattle.shredding.specs.Shred.{max_definition, max_repetition}
use Rattle.read_laws.specs.State.{kept_way}
use Rattle.read_walk.proofs.Following.{each-follows}
use Rattle.read_walk.proofs.order.told_follow.Goals as goal

pub returns : goal.returns
returns c e =
    let w = kept_way c.args.nested.now in
    each-follows w c.args.before c.args.reps.now c.args.defs.now (c.requires.defs ∙ sym c.requires.reps) (λ k h.
    let few : k < 64 = omega (arith, h, c.requires.reps) in
    let rep : get_or c.args.reps.now k 0 ≤ max_repetition w = omega (arith, c.are_told_within.ensures c.if-not-are_told_within.false k h, c.requires.lists) in
    let def : get_or c.args.defs.now k 0 ≤ max_definition w = omega (arith, c.are_told_within-2.ensures c.if-not-are_told_within-2.false k (omega (arith, few, c.requires.defs)), c.requires.top) in
    (rep, def, c.all_may_come.ensures e k few))
