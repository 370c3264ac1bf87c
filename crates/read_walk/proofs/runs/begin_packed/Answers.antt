use Rattle.std.proofs.Common.{◌≡◌, ◌+◌, ◌<◌, length, arith, inl, inr, ap, ◌∙◌}
use Rattle.std.proofs.lemmas.List.{length-append}
use Rattle.pq_runs.proofs.Decoding.{enough_packed}
use Rattle.pq_runs.proofs.Items.{packed_begins}
use Rattle.read_walk.specs.LevelRuns.{runs_left}
use Rattle.read_walk.proofs.Eights.{begins-whole, are-both}
use Rattle.read_walk.proofs.runs.begin_packed.Goals as goal

pub returns-clause-is : goal.returns-clause-is
returns-clause-is c =
    let s = c.args.levels.now in
    let body = c.args.body.now in
    let packed = c.from_body-levels.result.now in
    let size : length packed ≡ length body + length c.args.rest.now = ap length c.from_body-levels.ensures ∙ length-append body c.args.rest.now in
    record {
      fits = c.requires.is.fits;
      bits = elim c.requires.is.bits [ inl p ↦ inl p | inr q ↦ inr (omega (arith, q, c.requires.is.within, c.requires.none)) ];
      within = omega (arith, c.requires.none, c.standing_in-levels.ensures);
      small = omega arith;
      enough = omega (arith, enough_packed s.runs.num_bits s.left c.standing_in-levels.result body c.standing_in-levels.ensures, size);
      are = rw c.from_body-levels.ensures (are-both body c.args.rest.now (λ k. (c.type_inv.body k).fits) (λ k. (c.type_inv.rest k).fits));
    }

pub returns-clause-same : goal.returns-clause-same
unfolding runs_left
returns-clause-same c =
    let s = c.args.levels.now in
    let some : 0 < s.runs.num_bits = elim c.requires.is.bits [ inl h ↦ h | inr e ↦ absurd (omega arith) ] in
    let enough = enough_packed s.runs.num_bits s.left c.standing_in-levels.result c.args.body.now c.standing_in-levels.ensures in
    rw c.from_body-levels.ensures (begins-whole s.runs.num_bits s.left s.copies s.number c.standing_in-levels.result c.args.body.now c.args.rest.now enough ∙ packed_begins s.runs.num_bits s.left s.copies s.number s.standing _ c.standing_in-levels.result s.runs.values.now c.args.body.now c.args.rest.now some c.requires.none c.requires.some c.requires.run c.standing_in-levels.ensures)
