use Rattle.std.proofs.Common.{inr, arith}
use Rattle.read_column.proofs.Placing.{places-end, places-on}
use Rattle.read_column.proofs.entries.places_of.Goals as goal

pub returns-in-Err-clause-err : goal.returns-in-Err-clause-err
returns-in-Err-clause-err g c = inr (places-end _ c.args.body.now c.values.places.items c.values.end c.args.count c.in-Err.error c.values.invariant.0 (omega (arith, c.len.ensures, c.values-test.true)) c.in-Err.ensures.err)

pub values-preserved : goal.values-preserved
values-preserved g c =
    let p = c.in-Ok.ensures.ok in
    (rw c.in_ok-push.ensures.items (places-on _ c.args.body.now c.values.places.items c.values.end c.in-Ok.place p.2 c.values.invariant.0 p.0 p.1 p.3), omega (arith, c.len.ensures, c.values-test.true, c.in_ok-push.ensures.len))
