use Rattle.std.proofs.Common.{refl}
use Rattle.pq_thrift.specs.Value.{view}
use Rattle.pq_thrift.proofs.Whole.{left}
use Rattle.pq_thrift.proofs.reading.take_thrift.Goals as goal

pub returns-in-Ok-clause-gives : goal.returns-in-Ok-clause-gives
returns-in-Ok-clause-gives c =
    let behind = left c.args.bytes.now (view c.in-Ok.value) c.in-Ok.rest.now c.in-Ok.ensures.gives in
    rw (behind, c.in-Ok.ensures.gives) refl
