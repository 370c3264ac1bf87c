use Rattle.std.proofs.Common.{false}
use Rattle.pq_headline.specs.Arrays.{rows_of}
use Rattle.rewrite_whole.proofs.Encodes.{refused_wide}
use Rattle.sample_rows.specs.Fields.{sample_fields}
use Rattle.pq_tree.specs.TreeViews.{trees_view}
use Rattle.sample_run.proofs.Refusals.{made_of, memory_alone, suits}
use Rattle.sample_run.proofs.write.sample_group.Goals as goal
use Rattle.sample_run.specs.Files.{written_options}

pub returns-in-Err-clause-err : goal.returns-in-Err-clause-err
returns-in-Err-clause-err c =
    let n = c.requires.columns in
    let own = suits written_options n.0 c.args.chunk (trees_view c.args.trees.items) _ n.1 n.2 c.know_sound.ensures c.requires.trees c.in_ok-encodings.ensures.ok in
    memory_alone (rows_of c.args.chunk) c.in-Err.error
    (refused_wide sample_fields written_options c.args.chunk c.in_ok-encodings.encodings.items c.args.trees.items c.in-Err.error (c.suiting_chunks_are_taken.ensures false sample_fields written_options c.args.chunk c.in_ok-encodings.encodings.items c.args.trees.items own) c.in-Err.ensures.refused)

pub returns-in-Ok-clause-ok : goal.returns-in-Ok-clause-ok
returns-in-Ok-clause-ok c = made_of c.args.chunk c.in_ok-encodings.encodings c.args.trees c.in-Ok.group c.requires.columns c.know_sound.ensures c.requires.trees c.in_ok-encodings.ensures.ok c.in-Ok.ensures.ok c.in-Ok.ensures.columns
