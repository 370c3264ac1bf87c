use Rattle.std.proofs.Common.{Some, []}
use Rattle.sample_run.proofs.Put.{has_put, put_refused}
use Rattle.sample_run.proofs.write.put_group.Goals as goal

pub returns-in-Ok-clause-ok : goal.returns-in-Ok-clause-ok
returns-in-Ok-clause-ok c = λ chunk h.
    has_put c.args.writer.now c.write.new.self chunk c.args.group c.requires.fresh h c.in-Ok.ensures.schema c.in-Ok.ensures.options (c.in-Ok.ensures.ok (Some []) [] c.requires.fresh.writing h.columns)

pub returns-in-Err-clause-err : goal.returns-in-Err-clause-err
returns-in-Err-clause-err c =
    let g = c.requires.group in
    put_refused c.served_groups_are_laid.ensures c.large_pages_are_large.ensures c.samples_are_groups.ensures c.arrays_have_no_entries.ensures c.no_page_is_large.ensures c.counts_hold.ensures c.args.writer.now c.write.new.self g.0 c.args.group c.in-Err.error c.requires.fresh g.1
    (c.in-Err.ensures.refused (Some []) [] c.requires.fresh.writing g.1.columns)
