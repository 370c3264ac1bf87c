use Rattle.std.proofs.Common.{◌≡◌, sym, ◌∙◌}
use Rattle.rewrite_whole.specs.Answer.{ends, meaning}
use Rattle.rewrite_whole.specs.Asks.{Causes, Gives, asked_by, codec_of}
use Rattle.rewrite_notes.specs.Notes.{Told}
use Rattle.pq_rewrite.proofs.Runs.{complete_as, declined_as, refused_by}
use Rattle.pq_rewrite.proofs.call.run.Goals as goal

pub returns-in-Some-read_words-clause-refused : goal.returns-in-Some-read_words-clause-refused
returns-in-Some-read_words-clause-refused g c = λ p. (
  c.in-Some-read_words.options,
  sym c.read_words.ensures ∙ c.in-Some-read_words.is,
  refused_by c.in-Some-read_words.options _
      (ends g.S.Source.left g.S.Source.faults g.K.Sink.taken g.K.Sink.faults c.args.source.now c.run_with.new.source c.args.sink.now c.run_with.new.sink)
      (Told g.M.Sink.taken g.M.Sink.faults g.M.Sink.wants c.args.notes.now c.run_with.new.notes) _ _ c.run_with.result c.run_with.ensures.ended p.0 p.1,
)

pub returns-in-Some-read_words-clause-complete : goal.returns-in-Some-read_words-clause-complete
returns-in-Some-read_words-clause-complete g c = λ o asked taken.
    complete_as (codec_of (g.C.SchemaCodec.bytes_of c.args.codec.now) (g.C.SchemaCodec.reads c.args.codec.now)) c.in-Some-read_words.options o _
    (ends g.S.Source.left g.S.Source.faults g.K.Sink.taken g.K.Sink.faults c.args.source.now c.run_with.new.source c.args.sink.now c.run_with.new.sink)
    (Told g.M.Sink.taken g.M.Sink.faults g.M.Sink.wants c.args.notes.now c.run_with.new.notes) _ _ c.run_with.result c.refused_is_not_valid.ensures (sym c.in-Some-read_words.is ∙ (c.read_words.ensures ∙ asked)) c.run_with.ensures.ended taken

pub returns-in-Some-read_words-clause-declined : goal.returns-in-Some-read_words-clause-declined
returns-in-Some-read_words-clause-declined g c = λ o asked declined.
    let codec = codec_of (g.C.SchemaCodec.bytes_of c.args.codec.now) (g.C.SchemaCodec.reads c.args.codec.now) in
    declined_as c.in-Some-read_words.options o (meaning (Gives codec (asked_by c.in-Some-read_words.options) (g.V.View.seen c.args.view.now) (g.V.View.seen c.run_with.new.view)) (Causes codec (asked_by c.in-Some-read_words.options)))
    (ends g.S.Source.left g.S.Source.faults g.K.Sink.taken g.K.Sink.faults c.args.source.now c.run_with.new.source c.args.sink.now c.run_with.new.sink)
    (Told g.M.Sink.taken g.M.Sink.faults g.M.Sink.wants c.args.notes.now c.run_with.new.notes)
    ((c.run_with.new.source ≡ c.args.source.now) × (c.run_with.new.sink ≡ c.args.sink.now) × (c.run_with.new.view ≡ c.args.view.now)) (c.run_with.new.sink ≡ c.args.sink.now) c.run_with.result (sym c.in-Some-read_words.is ∙ (c.read_words.ensures ∙ asked)) c.run_with.ensures.ended declined
