use Rattle.std.proofs.Common.{refl, rules}
use Rattle.columns_core.proofs.Packed.{eight_whole, eight_near}
use Rattle.columns_core.proofs.bit_runs.eight_bits.Goals as goal

pub returns-then-shift-eq0 : goal.returns-then-shift-eq0
returns-then-shift-eq0 c = eight_whole _ c.args.bytes.now c.args.at refl c.if-shift-eq0.true

pub returns : goal.returns
returns c = eight_near c.shifted.result c.args.bytes.now c.args.at _ _ c.shifted.ensures (search rules) refl refl
