use Rattle.std.proofs.Common.{List, subst, arith}
use Rattle.columns_slots.specs.Tree.{ArrayTree}
use Rattle.pq_headline.specs.Openings.{Opening}
use Rattle.assembly.specs.Giving.{IsGiving}
use Rattle.rewrite_whole.proofs.Stepping.{ended_on, assembled, late}
use Rattle.rewrite_whole.proofs.pieces.expect_ends.Goals as goal

pub returns-in-Some-clause-err : goal.returns-in-Some-clause-err
returns-in-Some-clause-err g c = λ rows n os chunks u e.
    late c.loop-iter.iter-index rows n os c.args.iters.now.items c.loop-iter.iter-items chunks c.iter-item.result c.next.new.self c.in-Some.item c.reason_of.result
    u e (c.loop-iter.invariant rows n os chunks u e) (omega arith) c.iter-item.is
    (λ (o : Opening) (arrays : List ArrayTree) (h : IsGiving o arrays c.iter-item.result). c.in-Some.ensures o arrays (subst (λ x. IsGiving o arrays x) c.iter-item.is h))
    c.reason_of.ensures

pub loop-iter-preserved : goal.loop-iter-preserved
loop-iter-preserved g c = λ rows n os chunks u e.
    ended_on c.loop-iter.iter-index os c.loop-iter.iter-items chunks c.iter-item.result c.next.new.self (c.loop-iter.invariant rows n os chunks u e) (omega arith) c.iter-item.is
    (λ (o : Opening) (arrays : List ArrayTree) (h : IsGiving o arrays c.iter-item.result). c.in_default.ensures o arrays (subst (λ x. IsGiving o arrays x) c.iter-item.is h))

pub returns-clause-ok : goal.returns-clause-ok
returns-clause-ok g c = λ rows n os chunks u e.
    assembled c.loop-iter.iter-index os c.loop-iter.iter-items chunks (c.loop-iter.invariant rows n os chunks u e) (omega arith)
