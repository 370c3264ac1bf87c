use Rattle.std.proofs.Common.{◌≡◌, ◌/◌, ◌^◌, ◌<◌, ◌≤◌, ◌-◌, ℕ, arith}
use Rattle.std.proofs.lemmas.Nat.{pow_pos, mod_below}
use Rattle.read_walk.proofs.Joining.{packed-bits}
use Rattle.read_walk.proofs.words.take_packed.Goals as goal

pub returns-clause-taken : goal.returns-clause-taken
returns-clause-taken c =
    let s = c.args.levels.now in
    let is = c.requires.is in
    let n : ℕ = c.min-count.result in
    let there : n ≤ s.standing = omega (arith, c.min-count.ensures, c.min.ensures) in
    let few : n ≤ 64 - s.shift = omega (arith, c.min-count.ensures) in
    let some : 0 < n = omega (arith, c.min-count.ensures, c.min.ensures, c.requires.some, c.requires.room, is.small) in
    let one : s.runs.num_bits ≡ 1 = omega (arith, c.if-levels-ne1.false) in
    let bits = packed-bits s.runs.num_bits s.shift n s.standing s.packed.now one there few is.small is.enough in
    rw c.lowest.ensures record {
      some = some;
      few = omega (arith, c.min-count.ensures, c.min.ensures);
      below = mod_below (c.low_bytes.result / 2 ^ s.shift) (2 ^ n) (pow_pos n);
      first = rw (c.low_bytes.ensures, bits) c.drop_packed.ensures.left;
    }
