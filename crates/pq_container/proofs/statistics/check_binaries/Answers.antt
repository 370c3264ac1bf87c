use Rattle.std.proofs.Common.{◌≡◌, ℕ, List, Some}
use Rattle.pq_thrift.specs.Value.{Value, binary, view, values_view}
use Rattle.pq_metadata.specs.Footer.{AreAll}
use Rattle.pq_metadata.specs.Ids.{Each}
use Rattle.pq_tree.specs.Reads.{HasNone}
use Rattle.pq_container.proofs.Parts.{list_not}
use Rattle.pq_tree.proofs.Refusals.{on_err_more}
use Rattle.pq_container.proofs.statistics.check_binaries.Goals as goal

pub returns-in-Some-as_list-clause-refused : goal.returns-in-Some-as_list-clause-refused
returns-in-Some-as_list-clause-refused c =
    let v = view c.in-Some.list.now in
    let vs = values_view c.in-Some-as_list.values.now in
    let not : HasNone (Each (λ (w : Value) (x : List ℕ). w ≡ binary x) vs) → ¬ AreAll binary (Some v) = λ n. list_not binary v vs c.in-Some-as_list.ensures n in
    rw c.in-Some.is (on_err_more c.check_each_binary.result (HasNone (Each (λ (w : Value) (x : List ℕ). w ≡ binary x) vs)) (¬ AreAll binary (Some v)) not c.check_each_binary.ensures.refused)
