use Rattle.std.proofs.Common.{◌++◌, length, refl}
use Rattle.pq_deltas.specs.Encoding.{head}
use Rattle.pq_deltas.proofs.DeltaSteps.{appends_delta}
use Rattle.pq_runs.proofs.Steps.{finished}
use Rattle.pq_deltas.proofs.delta_encode.Encoder.finish.Goals as goal

pub returns-clause-ok : goal.returns-clause-ok
returns-clause-ok c =
    finished c.finish.result (λ f v start zs narrow h.
    let begun = start ++ head (length zs) in
    appends_delta v start begun c.finish.new.out.items zs (length zs) narrow h.few refl refl (f v begun c.args.self.now.latest zs c.is_some.ensures h.begun)) c.finish.ensures.ok
