use Rattle.std.proofs.Common.{◌*◌, ◌∙◌, ℕ, ap, sym}
use Rattle.std.specs.Prelude.{count_ones}
use Rattle.pq_tree.specs.Views.{physical_view}
use Rattle.write_places.specs.Places.{picked}
use Rattle.write_places.proofs.Picked.{length_picked}
use Rattle.write_values.proofs.NumberPlaces.{picked_size}
use Rattle.write_values.proofs.numbers.NumbersLeafValues.some_size.Goals as goal

pub returns : goal.returns
returns g c =
    let P = g.met.P.StoredNumber in
    let w = g.P.PlainNumber.byte_count in
    ap (λ (n : ℕ). count_ones c.args.bits * n) c.width.ensures
    ∙ (ap (λ (n : ℕ). n * w) (sym (length_picked c.args.bits c.args.from c.args.places c.requires.low))
    ∙ picked_size (physical_view g.P.ParquetNativeType.physical) w _ (picked c.args.bits c.args.from c.args.places) P.is_number_type P.size_is)
