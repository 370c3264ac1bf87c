use Rattle.thrift_fields.proofs.Chains.{behind, ends, whole}
use Rattle.pq_pages.proofs.header.push_entries.Goals as goal

pub returns : goal.returns
returns c =
    whole
    (behind c.in_ok-push_natural.ensures
    (behind c.in_ok-push_natural-2.ensures
    (behind c.in_ok-push_bool.ensures
    (ends c.in_ok-push.ensures.items))))
