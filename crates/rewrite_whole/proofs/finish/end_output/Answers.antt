use Rattle.std.proofs.Common.{[], Some}
use Rattle.rewrite_whole.specs.Asks.{codec_of}
use Rattle.rewrite_whole.proofs.Finishing.{ended, end_refused}
use Rattle.rewrite_whole.proofs.finish.end_output.Goals as goal

pub returns-in-Ok-end-clause-ok : goal.returns-in-Ok-end-clause-ok
returns-in-Ok-end-clause-ok g c = λ outs h.
    ended (codec_of (g.C.SchemaCodec.bytes_of c.args.codec.now) (g.C.SchemaCodec.reads c.args.codec.now)) c.args.job.now outs c.args.writer c.end.new.self.file.body.writer c.into_inner.result c.in-Ok-end.field-0 c.in-Ok.keys
    (record { groups = c.groups.result; rows = c.rows.result; data_pages = c.data_pages.result }) c.requires.schema c.requires.options c.in-Ok.ensures.ok h c.into_inner.ensures
    (c.groups.ensures, c.rows.ensures, c.data_pages.ensures) (c.in-Ok-end.ensures.ok (Some []) outs h)

pub returns-in-Err-end-clause-err : goal.returns-in-Err-end-clause-err
returns-in-Err-end-clause-err g c = λ outs h.
    end_refused (codec_of (g.C.SchemaCodec.bytes_of c.args.codec.now) (g.C.SchemaCodec.reads c.args.codec.now)) c.args.job.now outs c.args.writer c.in-Ok.keys c.in-Err-end.error c.requires.schema c.in-Ok.ensures.ok (c.in-Err-end.ensures.refused (Some []) outs h)
