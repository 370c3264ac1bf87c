use Rattle.std.proofs.Common.{◌≡◌, ◌*◌, ◌%◌, ◌^◌, arith}
use Rattle.std.proofs.lemmas.Nat.{one_shl}
use Rattle.read_walk.proofs.Eights.{eight_put}
use Rattle.read_walk.proofs.bits.put_numbers.Goals as goal

pub returns : goal.returns
returns c =
    let mask : 1 * 2 ^ c.args.width % 2 ^ 64 ≡ 2 ^ c.args.width = one_shl c.args.width 64 (omega (arith, c.requires.narrow)) in
    rw mask (eight_put _ _ _ _ _ _ _ _ c.args.out.now c.requires.room)
