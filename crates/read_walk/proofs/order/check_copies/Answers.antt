use Rattle.std.proofs.Common.{replicate}
use Rattle.std.proofs.lemmas.Result.{on_ok_weaker, IfErr-weaker}
use Rattle.read_laws.specs.State.{kept_way}
use Rattle.read_walk.specs.Order.{zipped, WhyNot, OneMayNot}
use Rattle.std.proofs.Common.{Some}
use Rattle.read_walk.proofs.Following.{follow-copies, follow-one, first-not, second-not}
use Rattle.read_walk.proofs.order.check_copies.Goals as goal

pub returns-in-Err-clause-err : goal.returns-in-Err-clause-err
returns-in-Err-clause-err c = first-not (kept_way c.args.nested.now) c.args.before c.args.count c.args.rep c.args.level c.in-Err.error c.requires.some c.in-Err.ensures.err

pub returns-then-count-eq1-clause-ok : goal.returns-then-count-eq1-clause-ok
returns-then-count-eq1-clause-ok c =
    let first = c.in-Ok.ensures.ok in
    follow-one (kept_way c.args.nested.now) c.args.before c.args.count c.args.rep c.args.level c.if-count-eq1.true first.0 first.1 first.2

pub returns-clause-ok : goal.returns-clause-ok
returns-clause-ok c =
    let first = c.in-Ok.ensures.ok in
    on_ok_weaker c.check_pair-2.result (λ second. follow-copies (kept_way c.args.nested.now) c.args.before c.args.count c.args.rep c.args.level first.0 first.1 first.2 second.2) c.check_pair-2.ensures.ok

pub returns-clause-err : goal.returns-clause-err
returns-clause-err c =
    let w = kept_way c.args.nested.now in
    let n = c.args.count in
    let r = c.args.rep in
    let d = c.args.level in
    IfErr-weaker c.check_pair-2.result (WhyNot w (Some d) (r, d)) (OneMayNot w c.args.before (zipped (replicate n r) (replicate n d))) (λ e why. second-not w c.args.before n r d e c.requires.some c.if-count-eq1.false why) c.check_pair-2.ensures.err
