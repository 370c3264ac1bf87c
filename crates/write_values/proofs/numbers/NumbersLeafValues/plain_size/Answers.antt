use Rattle.std.proofs.Common.{◌-◌, ◌*◌, ◌∙◌, ℕ, ap}
use Rattle.pq_tree.specs.Views.{physical_view}
use Rattle.write_values.proofs.NumberPlaces.{numbers_size}
use Rattle.write_values.proofs.numbers.NumbersLeafValues.plain_size.Goals as goal

pub returns : goal.returns
returns g c =
    let P = g.met.P.StoredNumber in
    ap (λ (n : ℕ). (c.args.to - c.args.from) * n) c.width.ensures
    ∙ numbers_size (physical_view g.P.ParquetNativeType.physical) g.P.PlainNumber.byte_count _ c.args.from (c.args.to - c.args.from) P.is_number_type P.size_is
