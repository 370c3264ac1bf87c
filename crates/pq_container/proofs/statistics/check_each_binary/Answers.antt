use Rattle.std.proofs.Common.{◌≡◌, ℕ, List}
use Rattle.pq_thrift.specs.Value.{Value, binary}
use Rattle.pq_container.proofs.Eachs.{each_some_next}
use Rattle.pq_container.proofs.statistics.check_each_binary.Goals as goal

pub loop-value-preserved : goal.loop-value-preserved
loop-value-preserved c = each_some_next (λ (v : Value) (x : List ℕ). v ≡ binary x) c.args.values.now c.loop-value.value-index c.value-item.result c.loop-value-test.true c.value-item.is c.loop-value.invariant c.in_ok-check_binary.ensures.found
