use Rattle.std.proofs.Common.{◌≡◌, ℤ, List, take}
use Rattle.pq_thrift.specs.Value.{int32, values_view}
use Rattle.pq_metadata.specs.Ids.{Each}
use Rattle.pq_container.proofs.statistics.check_each_i32.Given as goal

abbrev pub invariant-loop-value : goal.invariant-loop-value
invariant-loop-value l = (xs : List ℤ) × Each (λ v x. v ≡ int32 x) (values_view (take l.value-index l.values)) xs
