use Rattle.std.proofs.Common.{◌≡◌, ◌-◌, ◌++◌, length, arith, sym, ◌∙◌}
use Rattle.pq_runs.specs.Hybrid.{given}
use Rattle.read_laws.specs.State.{kept_way}
use Rattle.read_walk.specs.Levels.{levels_left}
use Rattle.read_walk.specs.LevelRuns.{runs_left}
use Rattle.read_walk.proofs.Flat.{told-first}
use Rattle.read_walk.proofs.Following.{follows-most}
use Rattle.read_walk.proofs.levels.next_packed.Goals as goal

pub returns-clause-taken : goal.returns-clause-taken
unfolding levels_left
returns-clause-taken c =
    let l = c.args.levels.now in
    let used = c.requires.used in
    let none : l.end - l.at ≡ 0 = omega (arith, used.used) in
    let may = c.may_take.ensures c.if-not-may_take.false in
    let rs = c.tell_packed.new.told in
    let ds = c.tell_packed-2.new.told in
    let way = c.requires.way in
    let size : length ds ≡ length rs = may.def_size ∙ sym may.rep_size in
    let most = follows-most (kept_way c.args.nested.now) c.args.before rs ds size may.follow in
    let reps : runs_left l.reps ≡ given rs ++ runs_left c.drop_packed.new.levels = rw c.tell_packed.ensures c.drop_packed.ensures.left in
    let defs : runs_left l.defs ≡ given ds ++ runs_left c.drop_packed-2.new.levels = rw c.tell_packed-2.ensures c.drop_packed-2.ensures.left in (
      told-first l.max_rep l.max_def (l.end - l.at) rs ds l.failed l.rep_block l.def_block (runs_left l.reps) (runs_left l.defs) (runs_left c.drop_packed.new.levels) (runs_left c.drop_packed-2.new.levels) used.goes_on none size (λ k h. omega (arith, (most k h).0, way.0, used.rep_most)) (λ k h. omega (arith, (most k (omega (arith, h, size))).1, way.1, used.def_most)) reps defs l.at,
      size,
      omega (arith, may.rep_size),
      omega (arith, may.rep_size),
      c.begun_in-begun.ensures,
      omega (arith, c.if-begun-rows.false),
    )
