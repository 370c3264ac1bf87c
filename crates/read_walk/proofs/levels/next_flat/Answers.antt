use Rattle.std.proofs.Common.{◌≡◌, ℕ, ◌-◌, arith, refl, sym, ◌∙◌}
use Rattle.std.proofs.lemmas.List.{length-replicate}
use Rattle.read_walk.specs.Levels.{levels_left}
use Rattle.read_walk.specs.LevelRuns.{runs_left}
use Rattle.read_walk.proofs.Flat.{flat-first}
use Rattle.read_walk.proofs.Walking.{rows-zero}
use Rattle.read_walk.proofs.levels.next_flat.Goals as goal

pub returns-clause-taken : goal.returns-clause-taken
unfolding levels_left
returns-clause-taken c _ =
    let l = c.args.levels.now in
    let next = c.is_flat_next.ensures c.if-not-is_flat_next.false in
    let none : l.end - l.at ≡ 0 = omega (arith, next.used) in
    let most = rw c.defs.ensures at (c.are_within.ensures c.if-not-are_within.false) in
    let size = c.fill_flat.ensures.size c.if-not-fill_flat.false in
    let zero : ℕ = 0 in
    let many = length-replicate 64 zero in
    let taken = sym c.copied-runs.ensures.left ∙ c.fill_flat.ensures.taken c.if-not-fill_flat.false in
    rw c.fill_flat.ensures.reps (
      flat-first l.max_rep l.max_def 64 (l.end - l.at) l.reps.number c.fill_flat.new.block.1 l.failed l.rep_block l.def_block (runs_left l.reps) (runs_left l.defs) (runs_left c.drop_copies.new.levels) (runs_left c.fill_flat.new.runs) next.goes_on none size most next.zeros c.drop_copies.ensures.left taken l.at,
      size ∙ sym many,
      omega (arith, many),
      omega (arith, many),
      sym (rows-zero 64 0 refl),
      next.wanted,
    )
