use Rattle.std.proofs.Common.{◌≤◌, arith}
use Rattle.read_laws.specs.State.{kept_way}
use Rattle.read_walk.proofs.Following.{deep-enough}
use Rattle.read_walk.proofs.order.check_pair.Goals as goal

pub returns-then-floor-min-clause-ok : goal.returns-then-floor-min-clause-ok
returns-then-floor-min-clause-ok c =
    let w = kept_way c.args.nested.now in
    let few : c.args.rep ≤ c.args.lists = omega (arith, c.if-rep-lists.false) in
    let first : c.args.floor ≤ c.in-Some.before = omega (arith, c.if-floor-min.true, c.min.ensures) in
    let second : c.args.floor ≤ c.args.level = omega (arith, c.if-floor-min.true, c.min.ensures) in
    let before = deep-enough w c.args.rep c.args.lists c.args.floor c.in-Some.before c.requires.lists c.requires.floor few first in
    let level = deep-enough w c.args.rep c.args.lists c.args.floor c.args.level c.requires.lists c.requires.floor few second in
    (omega (arith, c.if-rep-lists.false, c.requires.lists), omega (arith, c.if-level-top.false, c.requires.top), rw c.in-Some.is (before, level))
