use Rattle.std.proofs.Common.{◌≡◌, ℕ, List, take}
use Rattle.pq_thrift.specs.Value.{binary, values_view}
use Rattle.pq_metadata.specs.Ids.{Each}
use Rattle.pq_container.proofs.statistics.check_each_binary.Given as goal

abbrev pub invariant-loop-value : goal.invariant-loop-value
invariant-loop-value l = (xs : List (List ℕ)) × Each (λ v x. v ≡ binary x) (values_view (take l.value-index l.values)) xs
