use Rattle.std.proofs.Common.{◌≡◌, ◌≤◌, ◌+◌, length, take, drop, arith}
use Rattle.std.proofs.lemmas.List.{length-take-le}
use Rattle.read_leaf.proofs.Stretches.{took-none, took-one, short-front}
use Rattle.read_leaf.proofs.plain.put_next.Goals as goal

pub returns-then-not-is_valid : goal.returns-then-not-is_valid
returns-then-not-is_valid c =
    let at = c.args.at in
    let same : at + 0 ≡ at = omega arith in
    (omega arith, rw (c.if-not-is_valid.true, same) (took-none c.args.text.now (take at c.args.places.now)))

pub returns-in-Some : goal.returns-in-Some
returns-in-Some c =
    let n = c.in-Some.length in
    let bs = c.in-Some.behind.now in
    let few : n ≤ length bs = omega (arith, c.in-Some.ensures.0, c.in-Some.ensures.1) in
    let size : length (take n bs) ≡ n = length-take-le n bs few in
    let front = short-front c.args.at n c.args.places.now c.put_short.new.places bs c.in-Some.ensures.0 (omega (arith, c.requires)) c.put_short.ensures in
    (c.in-Some.ensures.0, rw (c.if-not-is_valid.false, c.skip.ensures) (rw size at (took-one c.args.text.now (take n bs) (drop n bs) (take c.args.at c.args.places.now) (take (c.args.at + n) c.put_short.new.places) c.in-Some.ensures.2 front)))
