use Rattle.std.proofs.Common.{Some, []}
use Rattle.pq_io.specs.PlainSinks.{plain_taken}
use Rattle.sample_run.proofs.Put.{end_refused, ended}
use Rattle.sample_run.proofs.write.end_file.Goals as goal

pub returns-in-Ok-clause-ok : goal.returns-in-Ok-clause-ok
returns-in-Ok-clause-ok c = λ chunk h.
    ended chunk c.args.writer c.in-Ok.field-0 (plain_taken c.into_inner.result) h (rw c.into_inner.ensures (c.in-Ok.ensures.ok (Some []) h.groups h.writing))

pub returns-in-Err-clause-err : goal.returns-in-Err-clause-err
returns-in-Err-clause-err c =
    let h = c.requires in
    end_refused c.served_groups_are_laid.ensures c.samples_are_groups.ensures c.schema_is_small.ensures c.footers_have_room.ensures h.0 c.args.writer h.1 c.in-Err.error (c.in-Err.ensures.refused (Some []) h.1.groups h.1.writing)
