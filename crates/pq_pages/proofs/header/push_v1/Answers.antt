use Rattle.thrift_fields.proofs.Chains.{behind, behind_some, ends, whole}
use Rattle.pq_pages.proofs.header.push_v1.Goals as goal

pub returns : goal.returns
returns c =
    whole
    (behind c.in_ok-push_i32.ensures
    (behind c.in_ok-push_i32-2.ensures
    (behind_some 3 _ c.in_ok-last.ensures
    (behind_some 4 _ c.in_ok-last-2.ensures
    (behind_some 5 _ c.in_ok-push_some_statistics.ensures
    (ends c.in_ok-push.ensures.items))))))
