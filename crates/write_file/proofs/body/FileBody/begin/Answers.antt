use Rattle.std.proofs.Common.{arith, refl}
use Rattle.write_file.proofs.Whole.{begun}
use Rattle.write_file.proofs.body.FileBody.begin.Goals as goal

pub returns-clause-ok : goal.returns-clause-ok
returns-clause-ok g c = λ before tree version groups h.
    begun g.W.Sink.taken before tree version groups c.args.self.now _ h (omega (arith, c.get.ensures.is, c.if-get-gt0.false)) (omega (arith, c.in_ok-pushed.ensures.ok, c.zero.ensures)) c.in_ok-push_all.ensures.ok
    (record { metadata = refl; version = refl; leaves = refl; rows = refl; data_pages = refl })
