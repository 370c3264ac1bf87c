use Rattle.std.proofs.Common.{ℕ, List, ◌++◌}
use Rattle.columns_core.specs.Natives.{four_bytes}
use Rattle.write_values.proofs.IntervalPlaces.{in_two_powers}
use Rattle.write_values.proofs.intervals.interval_text.Goals as goal

pub returns : goal.returns
returns c =
    let text : ℕ → ℕ → ℕ → List ℕ = λ a b d. four_bytes a ++ four_bytes b ++ four_bytes d in
    rw (c.to_le_bytes.ensures, c.to_le_bytes-2.ensures, c.to_le_bytes-3.ensures)
    (λ i. text (in_two_powers c.args.months c.ranges.months i) (in_two_powers c.args.days c.ranges.days i) (in_two_powers c.args.milliseconds c.ranges.milliseconds i))
