use Rattle.std.proofs.Common.{◌≡◌, ℤ, Some}
use Rattle.pq_thrift.specs.Value.{Value, int32, view, values_view}
use Rattle.pq_metadata.specs.Footer.{AreAll}
use Rattle.pq_metadata.specs.Ids.{Each}
use Rattle.pq_tree.specs.Reads.{HasNone}
use Rattle.pq_container.proofs.Parts.{list_not}
use Rattle.pq_tree.proofs.Refusals.{on_err_more}
use Rattle.pq_container.proofs.statistics.check_numbers.Goals as goal

pub returns-in-Some-as_list-clause-refused : goal.returns-in-Some-as_list-clause-refused
returns-in-Some-as_list-clause-refused c =
    let v = view c.in-Some.list.now in
    let vs = values_view c.in-Some-as_list.values.now in
    let not : HasNone (Each (λ (w : Value) (x : ℤ). w ≡ int32 x) vs) → ¬ AreAll int32 (Some v) = λ n. list_not int32 v vs c.in-Some-as_list.ensures n in
    rw c.in-Some.is (on_err_more c.check_each_i32.result (HasNone (Each (λ (w : Value) (x : ℤ). w ≡ int32 x) vs)) (¬ AreAll int32 (Some v)) not c.check_each_i32.ensures.refused)
