use Rattle.std.proofs.Common.{◌<◌, ◌≤◌, arith}
use Rattle.pq_container.proofs.Fronts.{number_fronts, one_byte, two_bytes, match_some}
use Rattle.pq_container.proofs.straight.number.Goals as goal

pub returns-then-low-lt128 : goal.returns-then-low-lt128
returns-then-low-lt128 c =
    let h : c.in_ok-low.low < 128 = omega (arith, c.if-low-lt128.true) in
    rw c.in_ok-low.ensures (one_byte c.in_ok-low.low c.in_ok-low.behind_low.now h)

pub returns-then-high-lt128 : goal.returns-then-high-lt128
returns-then-high-lt128 c =
    let l : 128 ≤ c.in_ok-low.low = omega (arith, c.if-low-lt128.false) in
    let h : c.in_ok-high.high < 128 = omega (arith, c.if-high-lt128.true) in
    rw (c.in_ok-low.ensures, c.in_ok-high.ensures) (two_bytes c.in_ok-low.low c.in_ok-high.high c.in_ok-high.behind_high.now l h)

pub returns : goal.returns
returns c = match_some _ c.take_varint.result c.take_varint.ensures.gives (λ x e. number_fronts c.args.bytes.now x.0 x.1.now e)
