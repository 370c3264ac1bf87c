use Rattle.std.proofs.Common.{arith}
use Rattle.thrift_fields.proofs.Chains.{behind, ends, struct_field, whole}
use Rattle.footer_write.proofs.groups.push_chunk.Goals as goal

pub returns : goal.returns
returns c =
    whole
    (behind c.in_ok-push_i64.ensures
    (behind (struct_field (omega arith) c.in_ok-push_struct_head.ensures c.in_ok-push_column.ensures)
    (ends c.in_ok-push.ensures.items)))
