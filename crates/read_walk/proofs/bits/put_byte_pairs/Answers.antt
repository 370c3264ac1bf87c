use Rattle.std.proofs.Common.{◌≡◌, ◌*◌, ◌/◌, ◌%◌, arith}
use Rattle.read_walk.proofs.Eights.{lanes_put}
use Rattle.read_walk.proofs.bits.put_byte_pairs.Goals as goal

pub returns : goal.returns
returns c =
    let w = c.args.word in
    let l0 : w % 65536 * 16384 % 65536 / 16384 ≡ w % 4 = omega arith in
    let l1 : w % 65536 * 4096 % 65536 / 16384 ≡ w / 4 % 4 = omega arith in
    let l2 : w % 65536 * 1024 % 65536 / 16384 ≡ w / 4 / 4 % 4 = omega arith in
    let l3 : w % 65536 * 256 % 65536 / 16384 ≡ w / 4 / 4 / 4 % 4 = omega arith in
    let l4 : w % 65536 * 64 % 65536 / 16384 ≡ w / 4 / 4 / 4 / 4 % 4 = omega arith in
    let l5 : w % 65536 * 16 % 65536 / 16384 ≡ w / 4 / 4 / 4 / 4 / 4 % 4 = omega arith in
    let l6 : w % 65536 * 4 % 65536 / 16384 ≡ w / 4 / 4 / 4 / 4 / 4 / 4 % 4 = omega arith in
    let l7 : w % 65536 * 1 % 65536 / 16384 ≡ w / 4 / 4 / 4 / 4 / 4 / 4 / 4 % 4 = omega arith in
    rw (l0, l1, l2, l3, l4, l5, l6, l7) (lanes_put _ _ _ _ _ _ _ _ c.args.out.now c.requires)
