use Rattle.std.proofs.Common.{◌*◌, ◌∙◌, ℕ, ap, sym}
use Rattle.std.specs.Prelude.{count_ones}
use Rattle.write_places.specs.Places.{picked}
use Rattle.write_places.proofs.Picked.{length_picked}
use Rattle.write_values.proofs.FixedPlaces.{each_size}
use Rattle.write_values.proofs.fixed.InFixedLeafValues.some_size.Goals as goal

pub returns : goal.returns
returns g c =
    let V = g.V.FixedValues in
    let vs = c.args.self.now.values in
    let n = V.size vs in
    ap (λ (k : ℕ). count_ones c.args.bits * k) c.width.ensures
    ∙ (ap (λ (k : ℕ). k * n) (sym (length_picked c.args.bits c.args.from c.args.places c.requires.low))
    ∙ each_size (V.physical vs) n (g.met.V.FixedValues.in_rows vs) (g.met.V.FixedValues.sizes vs) (V.at vs) (picked c.args.bits c.args.from c.args.places))
