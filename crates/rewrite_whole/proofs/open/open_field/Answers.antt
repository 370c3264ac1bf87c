use Rattle.rewrite_whole.proofs.Fielding.{field_opened, field_refused}
use Rattle.pq_pages.specs.Sources.{Source}
use Rattle.std.proofs.Common.{map}
use Rattle.columns_core.specs.View.{field_view}
use Rattle.rewrite_whole.proofs.open.open_field.Goals as goal

pub returns-in-Ok-clause-ok : goal.returns-in-Ok-clause-ok
returns-in-Ok-clause-ok c = λ ls f.
    field_opened c.args.job.now (field_view c.args.field.now) (field_view c.in_ok-field.field) c.args.num_rows ls c.args.chunks.now (map (λ (r : Source). r.outcomes) c.in_ok-columns.columns.readers.items) c.in_ok-columns.columns.types.items c.in-Ok.iter
    c.in_ok-field.ensures.ok f (c.in_ok-columns.ensures.ok ls f.chunks_are) c.in-Ok.ensures.ok

pub returns-in-Err-clause-err : goal.returns-in-Err-clause-err
returns-in-Err-clause-err c =
    field_refused c.args.job.now (field_view c.args.field.now) (field_view c.in_ok-field.field) c.args.num_rows c.requires.field.0 c.args.chunks.now (map (λ (r : Source). r.outcomes) c.in_ok-columns.columns.readers.items) c.in_ok-columns.columns.types.items c.in-Err.error
    c.requires.ready.some c.in_ok-field.ensures.ok c.requires.field.1 (c.in_ok-columns.ensures.ok c.requires.field.0 c.requires.field.1.chunks_are) c.in-Err.ensures.refused
