use Rattle.write_values.proofs.StringPlaces.{piece_between}
use Rattle.write_values.proofs.strings.string_at.Goals as goal

pub returns-clause-is : goal.returns-clause-is
returns-clause-is g c = piece_between c.args.offsets.now c.args.all.now c.args.i _ _ c.requires.within c.place-start.ensures c.place-end.ensures
