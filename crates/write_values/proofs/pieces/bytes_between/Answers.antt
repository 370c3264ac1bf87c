use Rattle.write_values.proofs.Fed.{texts_between}
use Rattle.write_values.proofs.pieces.bytes_between.Goals as goal

pub returns : goal.returns
returns g c = texts_between c.args.offsets.now c.args.all.now c.args.from c.args.to _ _ c.requires.places c.requires.ordered c.requires.within c.place-start.ensures c.place-end.ensures
