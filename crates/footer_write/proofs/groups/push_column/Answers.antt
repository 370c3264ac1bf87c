use Rattle.thrift_fields.proofs.Chains.{behind, behind_some, ends, whole}
use Rattle.footer_write.proofs.groups.push_column.Goals as goal

pub returns : goal.returns
returns c =
    whole
    (behind c.in_ok-push_i32.ensures
    (behind c.in_ok-push_numbers.ensures
    (behind c.in_ok-push_texts.ensures
    (behind c.in_ok-push_i32-2.ensures
    (behind c.in_ok-push_i64.ensures
    (behind c.in_ok-push_i64-2.ensures
    (behind c.in_ok-push_i64-3.ensures
    (behind c.in_ok-push_i64-4.ensures
    (behind_some 11 _ c.in_ok-last.ensures
    (behind_some 12 _ c.in_ok-push_some_statistics.ensures
    (ends c.in_ok-push.ensures.items)))))))))))
