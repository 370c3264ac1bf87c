use Rattle.pq_thrift.specs.Value.{int32}
use Rattle.thrift_fields.proofs.Chains.{Left}
use Rattle.thrift_fields.proofs.fields.push_each_number.Given as goal

abbrev pub invariant-loop-number : goal.invariant-loop-number
invariant-loop-number l = Left int32 l.numbers l.number-index l.initial.out.items l.out.items
