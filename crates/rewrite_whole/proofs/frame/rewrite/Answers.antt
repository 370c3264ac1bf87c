use Rattle.std.proofs.KnownBytes.{Keeps-refl}
use Rattle.rewrite_whole.specs.Answer.{meaning, ends}
use Rattle.rewrite_whole.specs.Asks.{Causes, Gives, asked_by, codec_of}
use Rattle.rewrite_whole.proofs.Middles.{nothing_shown}
use Rattle.rewrite_whole.proofs.Reasons.{by_cause}
use Rattle.rewrite_whole.proofs.Refusals.{refused}
use Rattle.rewrite_whole.proofs.frame.rewrite.Goals as goal

pub returns-in-Err-clause-answer : goal.returns-in-Err-clause-answer
returns-in-Err-clause-answer g c = λ some.
    refused
    (meaning (Gives (codec_of (g.C.SchemaCodec.bytes_of c.args.codec.now) (g.C.SchemaCodec.reads c.args.codec.now)) (asked_by c.args.options) (g.V.View.seen c.args.view.now) (g.V.View.seen c.convert.new.view)) (Causes (codec_of (g.C.SchemaCodec.bytes_of c.args.codec.now) (g.C.SchemaCodec.reads c.args.codec.now)) (asked_by c.args.options)))
    c.args.options.byte_limit
    (ends g.S.Source.left g.S.Source.faults g.K.Sink.taken g.K.Sink.faults c.args.source.now c.read_all.new.source c.args.sink.now c.args.sink.now)
    c.in-Err.error c.in_ok-input.input.items (Keeps-refl (g.K.Sink.taken c.args.sink.now)) c.in_ok-input.ensures.ok
    (by_cause (codec_of (g.C.SchemaCodec.bytes_of c.args.codec.now) (g.C.SchemaCodec.reads c.args.codec.now)) (asked_by c.args.options) c.in_ok-input.input.items c.in-Err.error (rw c.deref.ensures.value at c.in-Err.ensures.err))

pub returns-then-eq-clause-shown : goal.returns-then-eq-clause-shown
returns-then-eq-clause-shown g c = nothing_shown (g.V.View.seen c.args.view.now)

pub returns-in_err-input-clause-shown : goal.returns-in_err-input-clause-shown
returns-in_err-input-clause-shown g c = nothing_shown (g.V.View.seen c.args.view.now)
