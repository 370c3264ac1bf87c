use Rattle.std.proofs.Common.{◌≡◌, ◌<◌, ◌∙◌, ℕ, List, length, ap, sym, subst, arith}
use Rattle.std.specs.Prelude.{All}
use Rattle.levels.specs.Nested.{parts_of}
use Rattle.write_places.specs.Places.{path_places}
use Rattle.write_values.proofs.Kept.{all_kept, flat_places, kept_places, wide_product}
use Rattle.write_values.proofs.measure.measure_fixed.Goals as goal

pub returns-in-Some : goal.returns-in-Some
returns-in-Some g c =
    let m = c.in-Some.mask.now in
    let limit = g.L.LeafValues.count c.args.leaf.now in
    let places = path_places (parts_of c.args.nested.now) in
    let e = c.in-Some.ensures in
    let same : places ≡ kept_places m (length m) = flat_places (parts_of c.args.nested.now) m e.size e.tell e.leaf in
    let n : length places ≡ c.kept-values.result = ap length same ∙ sym c.kept-values.ensures in
    record {
      values = omega (arith, n, c.kept-values.type_inv);
      plain = wide_product c.kept-values.result c.args.width (length places) _ (omega (arith, c.kept-values.type_inv)) (omega (arith, c.ranges.width.fits)) n (c.requires.each places);
      within = subst (λ (ns : List ℕ). All (λ j. j < limit) ns) (sym same) (all_kept m limit (omega (arith, e.size, e.room, c.requires.leaf)));
    }
