use Rattle.std.proofs.Common.{◌≡◌, ◌-◌, arith}
use Rattle.levels.proofs.Columns.{length-column}
use Rattle.levels.proofs.Sizes.{length-path_pairs}
use Rattle.levels.specs.Nested.{parts_of}
use Rattle.levels.proofs.count.num_values.Goals as goal

pub returns-in-None : goal.returns-in-None
returns-in-None c = λ values.
    let whole : c.slot_count-slots.result - 0 ≡ c.slot_count-slots.result = omega arith in
    rw (length-column values c.args.nested.now, length-path_pairs (parts_of c.args.nested.now), ← c.slot_count-slots.ensures, ← whole) c.count.ensures

pub returns-in-Some : goal.returns-in-Some
returns-in-Some c = λ values.
    let whole : c.slot_count-slots.result - 0 ≡ c.slot_count-slots.result = omega arith in
    rw (length-column values c.args.nested.now, length-path_pairs (parts_of c.args.nested.now), ← c.slot_count-slots.ensures, ← whole) c.in-Some.ensures
