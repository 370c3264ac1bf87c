use Rattle.std.proofs.Common.{◌*◌, ◌∙◌, ℕ, length, ap}
use Rattle.pq_tree.specs.Views.{physical_view}
use Rattle.write_values.proofs.NumberPlaces.{picked_size}
use Rattle.write_values.proofs.numbers.measure_numbers.Goals as goal

pub measure_fixed-requires-clause-each : goal.measure_fixed-requires-clause-each
measure_fixed-requires-clause-each g c = λ places.
    let P = g.met.P.StoredNumber in
    ap (λ (n : ℕ). length places * n) c.width.ensures
    ∙ picked_size (physical_view g.P.ParquetNativeType.physical) g.P.PlainNumber.byte_count _ places P.is_number_type P.size_is
