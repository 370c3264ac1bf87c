use Rattle.std.proofs.Common.{refl, rules}
use Rattle.pq_thrift.specs.Value.{int64}
use Rattle.thrift_fields.proofs.Chains.{value_field}
use Rattle.thrift_fields.proofs.fields.push_i64.Goals as goal

pub returns : goal.returns
returns c = value_field {v = int64 c.args.number.now} refl (search rules) c.in_ok-push_head.ensures (record { spelled = c.in_ok-push_long.ensures.spelled; fits = c.in_ok-push_long.ensures.fits })
