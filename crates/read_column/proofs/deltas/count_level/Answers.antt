use Rattle.std.proofs.Common.{◌^◌, sym, arith}
use Rattle.read_column.proofs.Present.{too_high}
use Rattle.read_column.proofs.deltas.count_level.Goals as goal

pub returns-then-level : goal.returns-then-level
returns-then-level c = sym (too_high c.args.level (2 ^ 32) c.args.levels.now (λ k. (c.type_inv.levels k).fits) (omega (arith, c.if-level.true)))
