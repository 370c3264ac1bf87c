use Rattle.std.proofs.Common.{◌≡◌, arith, rules}
use Rattle.pq_thrift.specs.Value.{view, truth}
use Rattle.pq_thrift.specs.declared.value.Thrift.{Bool, the_lemmas}
use Rattle.pq_thrift.proofs.Again.{truth_in_field, truth_too_deep}
use Rattle.pq_thrift.proofs.reading.take_truth.Goals as goal

pub returns-then-depth-eq0-clause-gives : goal.returns-then-depth-eq0-clause-gives
returns-then-depth-eq0-clause-gives c = rw c.if-depth-eq0.true (truth_too_deep c.args.truth c.args.bytes.now)

pub returns-clause-gives : goal.returns-clause-gives
returns-clause-gives c =
    let seen : view (Bool c.args.truth) ≡ truth c.args.truth = search (rules, the_lemmas) in
    rw seen (truth_in_field c.args.depth c.args.truth c.args.bytes.now (omega arith))
