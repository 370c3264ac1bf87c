use Rattle.write_statistics.proofs.Further.{one_further}
use Rattle.write_statistics.proofs.extremes.with_number.Goals as goal

pub returns-in-Some-Some : goal.returns-in-Some-Some
returns-in-Some-Some g c =
    λ xs h.
    one_further g.T.OrderedNative.ordinal c.in-Some-Some.least c.in-Some-Some.greatest c.lesser.result c.greater.result c.args.number c.lesser.ensures c.greater.ensures xs
    (rw (c.in-Some-Some.is-0, c.in-Some-Some.is-1) at h)
