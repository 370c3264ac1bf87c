use Rattle.std.proofs.Common.{refl, rules}
use Rattle.pq_thrift.specs.Value.{binary}
use Rattle.thrift_fields.proofs.Chains.{value_field}
use Rattle.thrift_fields.proofs.fields.push_binary.Goals as goal

pub returns : goal.returns
returns c = value_field {v = binary c.args.text.now} refl (search rules) c.in_ok-push_head.ensures c.in_ok-push_bytes.ensures
