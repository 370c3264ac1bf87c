use Rattle.std.proofs.Common.{◌≡◌, ◌*◌, ◌/◌, ◌%◌, arith}
use Rattle.read_walk.proofs.Eights.{lanes_put}
use Rattle.read_walk.proofs.bits.put_bits.Goals as goal

pub returns : goal.returns
returns c =
    let w = c.args.word in
    let l0 : w % 256 * 2 * 16384 % 65536 / 32768 ≡ w % 2 = omega arith in
    let l1 : w % 256 * 2 * 8192 % 65536 / 32768 ≡ w / 2 % 2 = omega arith in
    let l2 : w % 256 * 2 * 4096 % 65536 / 32768 ≡ w / 2 / 2 % 2 = omega arith in
    let l3 : w % 256 * 2 * 2048 % 65536 / 32768 ≡ w / 2 / 2 / 2 % 2 = omega arith in
    let l4 : w % 256 * 2 * 1024 % 65536 / 32768 ≡ w / 2 / 2 / 2 / 2 % 2 = omega arith in
    let l5 : w % 256 * 2 * 512 % 65536 / 32768 ≡ w / 2 / 2 / 2 / 2 / 2 % 2 = omega arith in
    let l6 : w % 256 * 2 * 256 % 65536 / 32768 ≡ w / 2 / 2 / 2 / 2 / 2 / 2 % 2 = omega arith in
    let l7 : w % 256 * 2 * 128 % 65536 / 32768 ≡ w / 2 / 2 / 2 / 2 / 2 / 2 / 2 % 2 = omega arith in
    rw (l0, l1, l2, l3, l4, l5, l6, l7) (lanes_put _ _ _ _ _ _ _ _ c.args.out.now c.requires)
