use Rattle.std.proofs.Common.{◌≡◌, length, take, drop}
use Rattle.std.proofs.lemmas.List.{length-take-le}
use Rattle.read_leaf.proofs.Stretches.{took-none, took-one}
use Rattle.read_leaf.proofs.plain.take_one.Goals as goal

pub returns-then-not-is_valid-clause-ok : goal.returns-then-not-is_valid-clause-ok
returns-then-not-is_valid-clause-ok c = rw c.if-not-is_valid.true (took-none c.args.text.now c.args.content.now.items)

pub returns-in_ok-push_first-in-Some-clause-ok : goal.returns-in_ok-push_first-in-Some-clause-ok
returns-in_ok-push_first-in-Some-clause-ok c =
    let n = c.in-Some.length in
    let bs = c.in-Some.behind.now in
    let size : length (take n bs) ≡ n = length-take-le n bs c.in-Some.ensures.0 in
    rw (c.if-not-is_valid.false, c.skip.ensures) (rw size at (took-one c.args.text.now (take n bs) (drop n bs) c.args.content.now.items c.push_first.new.values.items c.in-Some.ensures.1 c.in_ok-push_first-in-Some.ensures.ok))
