use Rattle.std.proofs.Common.{Some, Err, refl, ap}
use Rattle.pq_io.specs.PlainSinks.{plain_taken}
use Rattle.pq_io.specs.PlainSources.{plain_left}
use Rattle.rewrite_whole.specs.Answer.{ends}
use Rattle.sample_run.proofs.Refusing.{not_rewritten, some_rows}
use Rattle.sample_run.proofs.rewrite.rewrite_file.Goals as goal

pub returns-clause-err : goal.returns-clause-err
returns-clause-err g c =
    not_rewritten (Err c.in-Err.error) c.args.input.items (g.V.View.seen c.args.view.now) (g.V.View.seen c.rewrite.new.view)
    (ends (λ s. Some (plain_left s)) (λ s. 0) (λ k. Some (plain_taken k)) (λ k. 0) c.new-source.result c.rewrite.new.source c.new-sink.result c.rewrite.new.sink)
    (ap Some c.new-source.ensures) refl refl (c.in-Err.ensures.answer some_rows)
