use Rattle.thrift_fields.proofs.Chains.{behind, behind_some, ends, whole}
use Rattle.pq_pages.proofs.header.push_v2.Goals as goal

pub returns : goal.returns
returns c =
    whole
    (behind c.in_ok-push_i32.ensures
    (behind_some 2 _ c.in_ok-last.ensures
    (behind c.in_ok-push_i32-2.ensures
    (behind c.in_ok-push_i32-3.ensures
    (behind c.in_ok-push_i32-4.ensures
    (behind c.in_ok-push_i32-5.ensures
    (behind_some 7 _ c.in_ok-last-2.ensures
    (behind_some 8 _ c.in_ok-push_some_statistics.ensures
    (ends c.in_ok-push.ensures.items)))))))))
