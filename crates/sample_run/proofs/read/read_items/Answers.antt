use Rattle.std.proofs.Common.{inr, refl}
use Rattle.pq_tree.specs.declared.version.Version.TheVariants.{V2}
use Rattle.sample_run.proofs.Reading.{lists_read, shown_are}
use Rattle.sample_run.proofs.Sized.{memory_alone}
use Rattle.sample_run.proofs.read.read_items.Goals as goal
use Rattle.sample_run.specs.Files.{sample_pieces}

pub count_pieces-requires-clause-items : goal.count_pieces-requires-clause-items
count_pieces-requires-clause-items c =
    (lists_read c.args.count c.pieces.result.now (shown_are c.args.count c.args.file.items c.new-view.result c.rewrite_file.new.view c.pieces.result.now _ _ c.new-view.ensures c.pieces.ensures c.requires.file c.in-Ok.ensures.ok)).0

pub count_pieces-requires-clause-are : goal.count_pieces-requires-clause-are
count_pieces-requires-clause-are c =
    (lists_read c.args.count c.pieces.result.now (shown_are c.args.count c.args.file.items c.new-view.result c.rewrite_file.new.view c.pieces.result.now _ _ c.new-view.ensures c.pieces.ensures c.requires.file c.in-Ok.ensures.ok)).1

pub returns-clause-err : goal.returns-clause-err
returns-clause-err c =
    memory_alone c.files_are_refused_for_size_alone.ensures c.samples_pass_no_size.ensures V2 (sample_pieces c.args.count) c.args.file.items c.in-Err.error (record { count = c.args.count; few = c.requires.few; is = inr refl }) c.requires.file c.in-Err.ensures.err
