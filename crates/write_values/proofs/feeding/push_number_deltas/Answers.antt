use Rattle.std.proofs.lemmas.Result.{IfOk-weaker}
use Rattle.std.proofs.Common.{map}
use Rattle.levels.specs.Nested.{parts_of}
use Rattle.write_places.specs.Places.{path_places}
use Rattle.write_values.proofs.Fed.{numbers_spelled}
use Rattle.write_values.proofs.feeding.push_number_deltas.Goals as goal

pub returns-clause-ok : goal.returns-clause-ok
returns-clause-ok g c =
    let D = g.D.DeltaValues in
    let vs = map (D.at c.args.values.now) (path_places (parts_of c.args.nested.now)) in
    IfOk-weaker c.push_row_deltas.result _ _ (λ body h. numbers_spelled D.physical D.width c.args.out.items body.items vs c.requires.numbers h) c.push_row_deltas.ensures.ok
