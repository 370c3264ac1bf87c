use Rattle.std.proofs.Common.{arith, refl}
use Rattle.read_leaf.specs.FixedBytes.{loaded_bytes}
use Rattle.read_types.proofs.FixedSizes.{fixed_none, fixed_short, fixed_value}
use Rattle.read_types.proofs.fixed_bytes.chunk_size.Goals as goal

pub returns-then-size-eq0-clause-err : goal.returns-then-size-eq0-clause-err
returns-then-size-eq0-clause-err c = (refl, fixed_none loaded_bytes c.args.size c.args.bytes.now c.if-size-eq0.true)

pub returns-then-bytes-size-clause-err : goal.returns-then-bytes-size-clause-err
returns-then-bytes-size-clause-err c = (refl, fixed_short loaded_bytes c.args.size c.args.bytes.now c.if-bytes-size.true)

pub returns-clause-ok : goal.returns-clause-ok
returns-clause-ok c = fixed_value loaded_bytes c.args.size c.args.bytes.now _ (omega (arith, c.if-size-eq0.false)) (omega (arith, c.if-bytes-size.false)) refl
