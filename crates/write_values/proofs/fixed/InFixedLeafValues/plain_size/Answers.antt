use Rattle.std.proofs.Common.{◌-◌, ◌*◌, ◌∙◌, ℕ, ap}
use Rattle.write_values.proofs.FixedPlaces.{stretch_size}
use Rattle.write_values.proofs.fixed.InFixedLeafValues.plain_size.Goals as goal

pub returns : goal.returns
returns g c =
    let V = g.V.FixedValues in
    let vs = c.args.self.now.values in
    let count = c.args.to - c.args.from in
    ap (λ (n : ℕ). count * n) c.width.ensures ∙ stretch_size (V.physical vs) (V.size vs) (g.met.V.FixedValues.in_rows vs) (g.met.V.FixedValues.sizes vs) (V.at vs) c.args.from count
