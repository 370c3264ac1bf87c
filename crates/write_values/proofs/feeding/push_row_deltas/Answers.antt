use Rattle.std.proofs.Common.{◌≡◌, ℕ, ◌∙◌, [], length, map, sym, subst}
use Rattle.std.proofs.lemmas.List.{length-map}
use Rattle.levels.specs.Nested.{parts_of}
use Rattle.pq_deltas.specs.Encoding.{IsEncoding}
use Rattle.write_places.specs.Places.{path_places}
use Rattle.write_values.specs.Feeding.{delta_number}
use Rattle.write_values.proofs.feeding.push_row_deltas.Goals as goal

pub returns-clause-ok : goal.returns-clause-ok
returns-clause-ok g c =
    let D = g.D.DeltaValues in
    let places = path_places (parts_of c.args.nested.now) in
    let vs = map (D.at c.args.values.now) places in
    let zs = map delta_number vs in
    let row = c.in_ok-take_places.ensures.taken.1 in
    let fed = row.fed.more c.args.count c.args.out.items [] (c.in_ok-encoder.ensures.ok D.width) in
    let many : c.args.count ≡ length zs = c.requires.count ∙ sym (length-map vs delta_number ∙ length-map places (D.at c.args.values.now)) in
    record {
      deltas = c.in_ok-finish.ensures.ok D.width c.args.out.items zs g.met.D.DeltaValues.narrow (subst (λ (n : ℕ). IsEncoding D.width n c.args.out.items c.take_places.new.taker.out.items c.take_places.new.taker.encoder zs) many fed);
      told = row.told;
    }
