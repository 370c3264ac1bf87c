use Rattle.std.proofs.Common.{◌≡◌, ◌*◌, ◌%◌, ◌^◌, arith}
use Rattle.std.proofs.lemmas.Nat.{one_shl}
use Rattle.read_walk.proofs.Joining.{join-fits}
use Rattle.read_walk.proofs.words.joined.Goals as goal

pub overflow_mul-result : goal.overflow_mul-result
overflow_mul-result c =
    let mask : 1 * 2 ^ c.args.done % 2 ^ 64 ≡ 2 ^ c.args.done = one_shl c.args.done 64 (omega (arith, c.requires.some, c.requires.few)) in
    rw mask record { fits = omega (arith, join-fits c.args.word c.args.done c.args.bits c.args.count c.requires.word c.requires.bits c.requires.few) }

pub overflow_add-result : goal.overflow_add-result
overflow_add-result c =
    let mask : 1 * 2 ^ c.args.done % 2 ^ 64 ≡ 2 ^ c.args.done = one_shl c.args.done 64 (omega (arith, c.requires.some, c.requires.few)) in
    rw mask record { fits = omega (arith, join-fits c.args.word c.args.done c.args.bits c.args.count c.requires.word c.requires.bits c.requires.few) }
