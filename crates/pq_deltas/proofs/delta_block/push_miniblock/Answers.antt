use Rattle.std.proofs.Common.{List, ℕ, ◌+◌, ◌-◌, ◌*◌, ◌/◌, ◌++◌, length, replicate, ap, ◌∙◌, append_assoc, refl}
use Rattle.pq_runs.proofs.DeltaParts.{miniblock_is}
use Rattle.pq_runs.proofs.Steps.{finished}
use Rattle.pq_deltas.proofs.delta_block.push_miniblock.Goals as goal

pub returns-clause-ok : goal.returns-clause-ok
returns-clause-ok c =
    let e = c.in_ok-push_packed_wide.ensures.ok in
    let n : ℕ = 4 * c.args.width - (c.args.width * length c.args.numbers.now + 7) / 8 in
    let m = miniblock_is c.args.width n c.args.numbers.now e.0 (e.0 ++ replicate n 0) c.requires.few c.requires.below e.2 refl refl in
    finished c.push_zeros.result (λ z. (e.0 ++ replicate n 0, z ∙ ap (λ (t : List ℕ). t ++ replicate n 0) e.1 ∙ append_assoc c.args.out.now.items e.0 (replicate n 0), m.0, m.1)) c.push_zeros.ensures.ok
