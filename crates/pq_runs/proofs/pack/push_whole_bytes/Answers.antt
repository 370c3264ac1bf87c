use Rattle.std.proofs.Common.{◌∙◌}
use Rattle.pq_runs.proofs.Packs.{shifts_begin, shifts_more, shifts_end, kept_more}
use Rattle.pq_runs.proofs.pack.push_whole_bytes.Goals as goal

pub loop-more-init : goal.loop-more-init
loop-more-init c = shifts_begin _ _ _ c.requires

pub loop-more-preserved : goal.loop-more-preserved
loop-more-preserved c = rw c.in_ok-push.ensures.items (shifts_more c.args.out.now.items c.loop-more.out.items c.args.bits c.args.held c.loop-more.more c.loop-more.left c.loop-more-test.true c.loop-more.invariant)

pub returns-in_err-push-clause-kept : goal.returns-in_err-push-clause-kept
returns-in_err-push-clause-kept c = kept_more c.args.out.now.items c.push.new.self.items c.loop-more.invariant.text (c.in_err-push.ensures.items ∙ c.loop-more.invariant.parts)

pub returns-clause-ok : goal.returns-clause-ok
returns-clause-ok c = shifts_end c.args.out.now.items c.loop-more.out.items c.args.bits c.args.held c.loop-more.more c.loop-more.left c.loop-more-test.false c.loop-more.invariant

pub returns-clause-kept : goal.returns-clause-kept
returns-clause-kept c = kept_more c.args.out.now.items c.loop-more.out.items c.loop-more.invariant.text c.loop-more.invariant.parts
