use Rattle.thrift_fields.proofs.Chains.{behind_some, ends, whole}
use Rattle.thrift_fields.proofs.statistics.push_statistics.Goals as goal

pub returns : goal.returns
returns c = whole (behind_some 3 _ c.in_ok-last.ensures (behind_some 5 _ c.in_ok-last-2.ensures (behind_some 6 _ c.in_ok-push_some_bytes.ensures (ends c.in_ok-push.ensures.items))))
