use Rattle.std.proofs.Common.{rules}
use Rattle.thrift_fields.proofs.Chains.{struct_field}
use Rattle.thrift_fields.proofs.statistics.push_bounds.Goals as goal

pub returns : goal.returns
returns c = struct_field (search rules) c.in_ok-push_struct_head.ensures c.in_ok-push_statistics.ensures
