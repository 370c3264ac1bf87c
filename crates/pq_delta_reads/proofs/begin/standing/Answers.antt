use Rattle.std.proofs.Common.{ℕ, ◌*◌, ◌∙◌, ap, arith, length, refl}
use Rattle.pq_delta_reads.proofs.Steps.{all_standing}
use Rattle.pq_delta_reads.proofs.begin.standing.Goals as goal

pub returns-then-from-groups : goal.returns-then-from-groups
returns-then-from-groups c =
    let size = ap (λ (w : ℕ). w * c.args.groups) c.from.ensures in
    c.min-wanted.ensures ∙ all_standing c.args.width c.args.groups c.args.left (length c.args.body.now) c.args.body.now c.if-width-eq0.false refl (omega (arith, size, c.if-from-groups.true))
