use Rattle.std.proofs.Common.{arith}
use Rattle.thrift_fields.proofs.Chains.{behind, ends, struct_field, whole}
use Rattle.footer_write.proofs.footer.push_order.Goals as goal

pub returns : goal.returns
returns c = whole (behind (struct_field (omega arith) c.in_ok-push_struct_head.ensures (whole (ends c.in_ok-push.ensures.items))) (ends c.in_ok-push-2.ensures.items))
