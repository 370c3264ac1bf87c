use Rattle.std.proofs.Common.{◌≡◌, arith, ◌∙◌}
use Rattle.read_walk.proofs.Joining.{zero-digits, low-digits, ones-digits}
use Rattle.read_walk.proofs.words.repeated.Goals as goal

pub returns-then-bit-eq0-clause-bits : goal.returns-then-bit-eq0-clause-bits
returns-then-bit-eq0-clause-bits c = rw c.if-bit-eq0.true (zero-digits c.args.count)

pub returns-else-bit-eq0-clause-bits : goal.returns-else-bit-eq0-clause-bits
returns-else-bit-eq0-clause-bits c =
    let one : c.args.bit ≡ 1 = omega (arith, c.requires.one, c.if-bit-eq0.false) in
    rw (c.lowest.ensures, one) (low-digits c.args.count 18446744073709551615 ∙ ones-digits c.args.count 64 c.requires.few)
