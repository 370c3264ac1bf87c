use Rattle.std.proofs.Common.{List, ℕ, take, drop, ap, ◌∙◌}
use Rattle.pq_runs.proofs.DeltaParts.{least_there, drop_four}
use Rattle.pq_deltas.proofs.delta_block.widths_of.Goals as goal

pub returns-clause-widths : goal.returns-clause-widths
returns-clause-widths c =
    let second = c.others_of-second.ensures in
    let third = c.others_of-third.ensures ∙ ap (λ (t : List ℕ). drop 32 t) second in
    let fourth = c.others_of-fourth.ensures ∙ ap (λ (t : List ℕ). drop 32 t) third in (
      c.width_of.ensures.fits,
      least_there _ _ _ c.first_of.ensures c.width_of.ensures.least,
      (
        c.width_of-2.ensures.fits,
        least_there _ _ _ (c.first_of-2.ensures ∙ ap (λ (t : List ℕ). take 32 t) second) c.width_of-2.ensures.least,
        (
          c.width_of-3.ensures.fits,
          least_there _ _ _ (c.first_of-3.ensures ∙ ap (λ (t : List ℕ). take 32 t) third) c.width_of-3.ensures.least,
          (
            c.width_of-4.ensures.fits,
            least_there _ _ _ (c.first_of-4.ensures ∙ ap (λ (t : List ℕ). take 32 t) fourth) c.width_of-4.ensures.least,
            drop_four c.args.numbers.now c.requires,
          ),
        ),
      ),
    )
