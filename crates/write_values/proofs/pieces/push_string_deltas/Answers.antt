use Rattle.std.proofs.lemmas.Result.{IfOk-weaker}
use Rattle.std.proofs.Common.{map}
use Rattle.columns_slots.specs.Bytes.{pieces_values}
use Rattle.levels.specs.Nested.{parts_of}
use Rattle.write_places.specs.Places.{path_places}
use Rattle.write_values.specs.Numbers.{at_place}
use Rattle.write_values.proofs.Fed.{strings_spelled}
use Rattle.write_values.proofs.pieces.push_string_deltas.Goals as goal

pub returns-clause-ok : goal.returns-clause-ok
returns-clause-ok g c =
    let pieces = c.args.pieces.now in
    let vs = map (at_place (pieces_values pieces.offsets.now pieces.all.now)) (path_places (parts_of c.args.nested.now)) in
    IfOk-weaker c.push_bytes.result _ _ (λ body e. strings_spelled c.args.out.items c.in_ok-out.out.items body.items vs c.in_ok-out.ensures.ok e c.requires.small) c.push_bytes.ensures.ok
