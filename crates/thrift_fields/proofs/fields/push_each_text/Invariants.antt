use Rattle.std.specs.Prelude.{string_bytes}
use Rattle.pq_thrift.specs.Value.{binary}
use Rattle.thrift_fields.proofs.Chains.{Left}
use Rattle.thrift_fields.proofs.fields.push_each_text.Given as goal

abbrev pub invariant-texts : goal.invariant-texts
invariant-texts l = Left (λ t. binary (string_bytes t)) l.texts l.text-index l.initial.out.items l.out.items
