use Rattle.std.proofs.Common.{◌≡◌, take, arith}
use Rattle.std.proofs.lemmas.List.{take_all}
use Rattle.read_state.proofs.Outer.{or-covers}
use Rattle.read_state.proofs.words.block_bits.Goals as goal

pub returns : goal.returns
returns c k h =
    let whole : take 64 c.args.levels.now ≡ c.args.levels.now = take_all 64 c.args.levels.now (omega (arith, c.requires)) in
    rw whole (or-covers 0 c.args.levels.now k h)
