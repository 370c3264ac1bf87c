use Rattle.thrift_fields.proofs.Chains.{behind, behind_some, ends, whole}
use Rattle.footer_write.proofs.footer.push_key.Goals as goal

pub returns : goal.returns
returns c =
    whole
    (behind c.in_ok-push_text.ensures
    (behind_some 2 _ c.in_ok-push_some_text.ensures
    (ends c.in_ok-push.ensures.items)))
