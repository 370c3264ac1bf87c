use Rattle.std.proofs.Common.{arith, refl}
use Rattle.read_column.proofs.deltas.count_present.Goals as goal

pub overflow_add-count : goal.overflow_add-count
overflow_add-count c =
    let t = rw c.in-Ok.is at c.in-Some.ensures in
    omega (arith, t.0, c.runs.invariant.0, c.requires)

pub runs-preserved : goal.runs-preserved
runs-preserved c =
    let t = rw c.in-Ok.is at c.in-Some.ensures in
    (omega (arith, t.0, c.runs.invariant.0), λ f. c.runs.invariant.1 (t.1 f), refl)
