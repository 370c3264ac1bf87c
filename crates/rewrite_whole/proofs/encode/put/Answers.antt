use Rattle.std.proofs.Common.{◌∙◌, Some, [], ap}
use Rattle.pq_tree.specs.TreeViews.{trees_view}
use Rattle.rewrite_whole.proofs.Encodes.{IsMadeOf, made_of, put_err, put_ok, refused_chunk, refused_wide, suits}
use Rattle.rewrite_whole.specs.Ready.{asked_of, fields_in}
use Rattle.rewrite_whole.proofs.encode.put.Goals as goal

pub returns-in-Ok-clause-ok : goal.returns-in-Ok-clause-ok
returns-in-Ok-clause-ok c = λ groups h.
    let made : IsMadeOf c.args.job.now c.args.chunk c.in-Ok.group =
    made_of c.args.job.now c.args.chunk c.in_ok-encodings.encodings c.in_ok-trees.trees c.options_of.result c.in-Ok.group c.requires.ready c.requires.piece c.know_sound.ensures
    c.in_ok-encodings.ensures.ok (c.in_ok-trees.ensures.ok ∙ ap trees_view c.fields.ensures.are) c.options_of.ensures c.in-Ok.ensures.ok c.in-Ok.ensures.columns in
    put_ok c.args.job.now c.args.chunk groups c.in-Ok.group c.args.writer.now c.write.new.self c.write.result c.groups_are_written.ensures c.requires.ready c.requires.piece made
    (record { schema = c.requires.schema; options = c.requires.options }) (c.write.ensures.ok (Some []) groups h made.columns)

pub returns-in-Ok-clause-err : goal.returns-in-Ok-clause-err
returns-in-Ok-clause-err c = λ groups h.
    let made : IsMadeOf c.args.job.now c.args.chunk c.in-Ok.group =
    made_of c.args.job.now c.args.chunk c.in_ok-encodings.encodings c.in_ok-trees.trees c.options_of.result c.in-Ok.group c.requires.ready c.requires.piece c.know_sound.ensures
    c.in_ok-encodings.ensures.ok (c.in_ok-trees.ensures.ok ∙ ap trees_view c.fields.ensures.are) c.options_of.ensures c.in-Ok.ensures.ok c.in-Ok.ensures.columns in
    put_err c.args.job.now c.args.chunk groups c.in-Ok.group c.args.writer.now c.write.new.self c.write.result c.groups_are_written.ensures c.large_pages_are_large.ensures c.requires.ready made
    (record { schema = c.requires.schema; options = c.requires.options }) h (c.write.ensures.refused (Some []) groups h made.columns)

pub returns-in-Err-clause-err : goal.returns-in-Err-clause-err
returns-in-Err-clause-err c = λ groups h.
    refused_chunk (asked_of c.args.job.now) (fields_in c.args.job.now) groups c.args.chunk c.in-Err.error
    (refused_wide (fields_in c.args.job.now) c.options_of.result c.args.chunk c.in_ok-encodings.encodings.items c.in_ok-trees.trees.items c.in-Err.error
    (c.suiting_chunks_are_taken.ensures c.args.job.now.options.now.delta (fields_in c.args.job.now) c.options_of.result c.args.chunk c.in_ok-encodings.encodings.items c.in_ok-trees.trees.items
    (suits c.args.job.now c.args.chunk c.options_of.result c.in_ok-encodings.encodings c.in_ok-trees.trees.items c.requires.ready c.requires.piece c.know_sound.ensures
    c.in_ok-encodings.ensures.ok (c.in_ok-trees.ensures.ok ∙ ap trees_view c.fields.ensures.are) c.options_of.ensures)) c.in-Err.ensures.refused)
