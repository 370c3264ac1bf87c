use Rattle.std.proofs.Common.{get_or, replicate, arith, ap, ◌∙◌}
use Rattle.read_state.proofs.Long.{all-replicate}
use Rattle.read_state.proofs.block.are_alike.Goals as goal

pub returns : goal.returns
returns c t =
    let ends = c.loop-j-test.false in
    let size = c.requires.defs in (
      all-replicate c.args.reps.now (get_or c.args.reps.now 0 0) (λ k h. c.loop-j.invariant.reps k (omega (arith, h, ends))),
      all-replicate c.args.defs.now (get_or c.args.defs.now 0 0) (λ k h. c.loop-j.invariant.defs k (omega (arith, h, ends, size))) ∙ ap (λ n. replicate n (get_or c.args.defs.now 0 0)) size,
    )
