use Rattle.std.proofs.Common.{◌≡◌}
use Rattle.rewrite_whole.specs.Answer.{meaning, ends}
use Rattle.rewrite_whole.specs.Asks.{Causes, Gives, asked_by, codec_of}
use Rattle.rewrite_notes.specs.Notes.{Told}
use Rattle.pq_rewrite.proofs.Runs.{ended_by}
use Rattle.pq_rewrite.proofs.call.run_with.Goals as goal

pub returns-clause-ended : goal.returns-clause-ended
returns-clause-ended g c =
    ended_by c.args.options
    (meaning (Gives (codec_of (g.C.SchemaCodec.bytes_of c.args.codec.now) (g.C.SchemaCodec.reads c.args.codec.now)) (asked_by c.args.options) (g.V.View.seen c.args.view.now) (g.V.View.seen c.rewrite-answer.new.view)) (Causes (codec_of (g.C.SchemaCodec.bytes_of c.args.codec.now) (g.C.SchemaCodec.reads c.args.codec.now)) (asked_by c.args.options)))
    (ends g.S.Source.left g.S.Source.faults g.K.Sink.taken g.K.Sink.faults c.args.source.now c.rewrite-answer.new.source c.args.sink.now c.rewrite-answer.new.sink)
    (Told g.M.Sink.taken g.M.Sink.faults g.M.Sink.wants c.args.notes.now c.tell_answer.new.notes)
    ((c.rewrite-answer.new.source ≡ c.args.source.now) × (c.rewrite-answer.new.sink ≡ c.args.sink.now) × (c.rewrite-answer.new.view ≡ c.args.view.now))
    (c.rewrite-answer.new.sink ≡ c.args.sink.now)
    c.rewrite-answer.result c.status_of.result
    c.rewrite-answer.ensures.no_rows c.rewrite-answer.ensures.untouched c.rewrite-answer.ensures.answer c.rewrite-answer.ensures.kept
    c.status_of.ensures c.tell_answer.ensures
