use Rattle.std.proofs.Common.{arith}
use Rattle.thrift_fields.proofs.Chains.{behind, ends, struct_field, whole}
use Rattle.pq_pages.proofs.header.push_data_1.Goals as goal

pub returns : goal.returns
returns c =
    whole
    (behind c.in_ok-push_natural.ensures
    (behind c.in_ok-push_natural-2.ensures
    (behind c.in_ok-push_natural-3.ensures
    (behind (struct_field (omega arith) c.in_ok-push_struct_head.ensures c.in_ok-push_v1.ensures)
    (ends c.in_ok-push.ensures.items)))))
