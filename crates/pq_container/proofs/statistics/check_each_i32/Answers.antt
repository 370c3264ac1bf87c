use Rattle.std.proofs.Common.{◌≡◌, ℤ}
use Rattle.pq_thrift.specs.Value.{Value, int32}
use Rattle.pq_container.proofs.Eachs.{each_some_next}
use Rattle.pq_container.proofs.statistics.check_each_i32.Goals as goal

pub loop-value-preserved : goal.loop-value-preserved
loop-value-preserved c = each_some_next (λ (v : Value) (x : ℤ). v ≡ int32 x) c.args.values.now c.loop-value.value-index c.value-item.result c.loop-value-test.true c.value-item.is c.loop-value.invariant c.in_ok-check_i32.ensures.found
