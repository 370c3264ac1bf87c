use Rattle.pq_io.specs.PieceSinks.{pieces_taken}
use Rattle.rewrite_whole.specs.Asks.{codec_of}
use Rattle.rewrite_whole.proofs.Finishing.{finish_refuses, finishes, still_open}
use Rattle.rewrite_whole.proofs.finish.finish_output.Goals as goal

pub returns-in-None-clause-ok : goal.returns-in-None-clause-ok
returns-in-None-clause-ok g c = λ chunks h.
    finishes c.end_output.result (codec_of (g.C.SchemaCodec.bytes_of c.args.codec.now) (g.C.SchemaCodec.reads c.args.codec.now)) c.args.job.now chunks (λ made. pieces_taken made.0) (λ made. made.1) c.args.output.writer (still_open c.args.job.now c.args.output chunks c.in-None.is h) c.end_output.ensures.ok

pub returns-in-None-clause-err : goal.returns-in-None-clause-err
returns-in-None-clause-err g c = λ chunks h.
    finish_refuses c.end_output.result (codec_of (g.C.SchemaCodec.bytes_of c.args.codec.now) (g.C.SchemaCodec.reads c.args.codec.now)) c.args.job.now chunks c.args.output.writer (still_open c.args.job.now c.args.output chunks c.in-None.is h) c.end_output.ensures.err
