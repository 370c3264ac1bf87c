use Rattle.std.proofs.Common.{length, sym, arith}
use Rattle.columns_leaf.proofs.Texts.{step_of_places}
use Rattle.write_values.proofs.StringPlaces.{piece_between}
use Rattle.write_values.proofs.fronts.front_at.Goals as goal

pub front_of-requires-clause-ordered : goal.front_of-requires-clause-ordered
front_of-requires-clause-ordered g c =
    let s = step_of_places c.args.offsets.now (length c.args.all.now) c.args.place c.requires.places c.requires.within in
    omega (arith, s.0, c.place.ensures, c.place-2.ensures)

pub front_of-requires-clause-within : goal.front_of-requires-clause-within
front_of-requires-clause-within g c =
    let s = step_of_places c.args.offsets.now (length c.args.all.now) c.args.place c.requires.places c.requires.within in
    omega (arith, s.1, c.place-2.ensures)

pub returns : goal.returns
returns g c = record {
  text = _;
  value_is = sym (piece_between c.args.offsets.now c.args.all.now c.args.place _ _ c.requires.within c.place.ensures c.place-2.ensures);
  small = c.front_of.ensures.small;
  is = c.front_of.ensures.is;
}
