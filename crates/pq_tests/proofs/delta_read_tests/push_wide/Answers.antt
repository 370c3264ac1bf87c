use Rattle.std.proofs.Common.{◌≡◌, length, ap, ◌∙◌, arith}
use Rattle.std.proofs.iter.Yields.{Copied-Drains}
use Rattle.std.specs.Slice.Iter.{iter_rest}
use Rattle.pq_tests.proofs.delta_read_tests.push_wide.Goals as goal

pub encode-requires-clause-gives : goal.encode-requires-clause-gives
encode-requires-clause-gives c =
    let rest : iter_rest c.copied.result.iter ≡ c.args.values.now = ap iter_rest c.copied.ensures.source ∙ c.iter.ensures.rest in
    λ vs d.
    let e : vs ≡ c.args.values.now = Copied-Drains c.copied.result vs d ∙ rest in
    omega (arith, ap length e)
