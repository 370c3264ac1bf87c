use Rattle.std.proofs.Common.{refl, rules}
use Rattle.pq_thrift.specs.Value.{int16}
use Rattle.thrift_fields.proofs.Chains.{value_field}
use Rattle.thrift_fields.proofs.some.push_i16.Goals as goal

pub returns : goal.returns
returns c = value_field {v = int16 c.args.number.now} refl (search rules) c.in_ok-push_head.ensures (record { spelled = c.in_ok-push_short.ensures.spelled; fits = c.in_ok-push_short.ensures.fits })
