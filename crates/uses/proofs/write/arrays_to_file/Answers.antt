use Rattle.std.proofs.Common.{[], ap, ◌∙◌}
use Rattle.columns_core.specs.View.{schema_view}
use Rattle.pq_tree.specs.TreeViews.{trees_view}
use Rattle.write_groups.specs.Writing.{HasColumns}
use Rattle.uses.proofs.Refused.{end_refused, group_refused, tree_fields, write_refused}
use Rattle.uses.proofs.Written.{file_of}
use Rattle.uses.proofs.write.arrays_to_file.Goals as goal

pub returns-in-Err-clause-err : goal.returns-in-Err-clause-err
returns-in-Err-clause-err g c =
    let trees = c.in_ok-trees.ensures.ok ∙ ap trees_view c.fields.ensures.are ∙ ap (λ d. trees_view d.fields) c.parquet_schema.ensures ∙ tree_fields g.K.Sink.taken (g.K.Sink.taken c.args.sink) c.in_ok-writer.writer (schema_view c.args.schema) c.in_ok-writer.ensures.schema c.in_ok-writer.ensures.ok in
    group_refused (schema_view c.args.schema) (g.C.SchemaCodec.bytes_of c.args.codec.now (schema_view c.args.schema)) c.args.options _ c.args.encodings.items c.in_ok-trees.trees.items c.in-Err.error trees c.in-Err.ensures.refused

pub returns-in-Err-write-clause-err : goal.returns-in-Err-write-clause-err
returns-in-Err-write-clause-err g c =
    let e = c.in-Ok.ensures.ok in
    let has : HasColumns c.in-Ok.group = rw e.0 (rw e.1 (rw e.2 (rw e.3 c.in-Ok.ensures.columns))) in
    let before = g.K.Sink.taken c.args.sink in
    let trees = ap (λ v. trees_view v.items) e.2 ∙ (c.in_ok-trees.ensures.ok ∙ ap trees_view c.fields.ensures.are ∙ ap (λ d. trees_view d.fields) c.parquet_schema.ensures) in
    write_refused g.K.Sink.faults c.in_ok-writer.writer c.write.new.self c.in-Ok.group (schema_view c.args.schema) (g.C.SchemaCodec.bytes_of c.args.codec.now (schema_view c.args.schema)) c.args.options _ _ c.in-Err-write.error
    c.in_ok-writer.ensures.schema c.in_ok-writer.ensures.options e.0 e.3 trees has (c.in-Err-write.ensures.refused before [] c.in_ok-writer.ensures.ok has)

pub returns-in-Ok-end-clause-ok : goal.returns-in-Ok-end-clause-ok
returns-in-Ok-end-clause-ok g c =
    let e = c.in-Ok.ensures.ok in
    let has : HasColumns c.in-Ok.group = rw e.0 (rw e.1 (rw e.2 (rw e.3 c.in-Ok.ensures.columns))) in
    let before = g.K.Sink.taken c.args.sink in
    let begun = c.in_ok-writer.ensures.ok in
    file_of g.K.Sink.taken before (g.K.Sink.taken c.into_inner.result) c.in_ok-writer.writer c.write.new.self c.in-Ok.group (schema_view c.args.schema) (g.C.SchemaCodec.bytes_of c.args.codec.now) c.args.options c.args.chunk c.in-Ok-end.field-0
    c.in_ok-writer.ensures.schema (ap schema_view c.in_default.ensures.schema ∙ c.in_ok-writer.ensures.schema) (c.in_default.ensures.options ∙ c.in_ok-writer.ensures.options) e.0 has begun (c.in_default.ensures.ok before [] begun has)
    (λ groups w. rw c.into_inner.ensures (c.in-Ok-end.ensures.ok before groups w))

pub returns-in-Err-end-clause-err : goal.returns-in-Err-end-clause-err
returns-in-Err-end-clause-err g c =
    let e = c.in-Ok.ensures.ok in
    let has : HasColumns c.in-Ok.group = rw e.0 (rw e.1 (rw e.2 (rw e.3 c.in-Ok.ensures.columns))) in
    let before = g.K.Sink.taken c.args.sink in
    let begun = c.in_ok-writer.ensures.ok in
    end_refused g.K.Sink.taken before c.in_ok-writer.writer c.write.new.self _ c.in-Ok.group (schema_view c.args.schema) (g.C.SchemaCodec.bytes_of c.args.codec.now) c.args.options c.args.chunk _ c.in-Err-end.error
    c.in_ok-writer.ensures.schema (ap schema_view c.in_default.ensures.schema ∙ c.in_ok-writer.ensures.schema) e.0 has begun (c.in_default.ensures.ok before [] begun has)
    (c.in-Err-end.ensures.refused before)
