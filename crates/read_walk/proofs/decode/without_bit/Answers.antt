use Rattle.std.proofs.Common.{◌≡◌, ◌+◌, ◌*◌, ◌/◌, ◌%◌, ◌^◌, ℕ, arith, ap}
use Rattle.std.proofs.lemmas.Nat.{one_shl}
use Rattle.read_walk.proofs.decode.without_bit.Goals as goal

pub returns : goal.returns
returns c =
    let mask : 1 * 2 ^ c.args.at % 2 ^ 64 ≡ 2 ^ c.args.at = one_shl c.args.at 64 (omega (arith, c.requires)) in
    ap (λ (k : ℕ). c.args.word % k + c.args.word / 2 ^ c.args.at / 2 * k) mask
