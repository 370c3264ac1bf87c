use Rattle.std.proofs.Common.{[], refl, arith}
use Rattle.std.specs.Int.{w32}
use Rattle.pq_tree.specs.Physical.{int32}
use Rattle.write_values.proofs.Fed.{numbers_spelled}
use Rattle.write_values.proofs.deltas.push_no_deltas.Goals as goal

pub returns-clause-ok : goal.returns-clause-ok
returns-clause-ok c =
    numbers_spelled int32 w32 c.args.out.items c.finish.new.out.items [] refl (record { deltas = c.in_ok-finish.ensures.ok w32 c.args.out.items [] (omega arith) (c.in_ok-encoder.ensures.ok w32); told = tt })
