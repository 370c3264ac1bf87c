use Rattle.thrift_fields.proofs.Chains.{behind, behind_some, ends, whole}
use Rattle.footer_write.proofs.groups.push_group.Goals as goal

pub returns : goal.returns
returns c =
    whole
    (behind c.in_ok-push_chunks.ensures
    (behind c.in_ok-push_i64.ensures
    (behind c.in_ok-push_i64-2.ensures
    (behind c.in_ok-push_i64-3.ensures
    (behind c.in_ok-push_i64-4.ensures
    (behind_some 7 _ c.in_ok-push_some_i16.ensures
    (ends c.in_ok-push.ensures.items)))))))
