use Rattle.std.proofs.Common.{◌≡◌, ◌-◌, ◌/◌, ◌^◌, ◌++◌, length, replicate, arith, refl, sym, ◌∙◌}
use Rattle.pq_numbers.specs.Texts.{number_of}
use Rattle.pq_numbers.proofs.Digits.{length-digits}
use Rattle.pq_runs.specs.Hybrid.{given}
use Rattle.read_laws.specs.State.{kept_way}
use Rattle.read_walk.specs.Levels.{levels_left}
use Rattle.read_walk.specs.LevelRuns.{runs_left}
use Rattle.read_walk.proofs.Flat.{flat-first, no-bits}
use Rattle.read_walk.proofs.Following.{follows-most}
use Rattle.read_walk.proofs.Walking.{rows-zero}
use Rattle.read_walk.proofs.levels.next_rows.Goals as goal

pub returns-then-are_packed-clause-taken : goal.returns-then-are_packed-clause-taken
unfolding levels_left
returns-then-are_packed-clause-taken c =
    let l = c.args.levels.now in
    let used = c.requires.used in
    let next = c.requires.flat in
    let none : l.end - l.at ≡ 0 = omega (arith, used.used) in
    let rs = c.set_word.new.self in
    let ds = c.tell_packed.new.told in
    let zeros : rs ≡ replicate 64 0 = c.set_word.ensures ∙ no-bits 64 in
    let may = c.may_begin.ensures c.if-not-may_begin.false c.args.before rs zeros in
    let way = c.requires.way in
    let size : length ds ≡ length rs = may.def_size ∙ sym may.rep_size in
    let most = follows-most (kept_way c.args.nested.now) c.args.before rs ds size may.follow in
    let defs : runs_left l.defs ≡ given ds ++ runs_left c.drop_packed.new.levels = rw c.tell_packed.ensures c.drop_packed.ensures.left in (
      rw zeros (flat-first l.max_rep l.max_def 64 (l.end - l.at) l.reps.number ds l.failed l.rep_block l.def_block (runs_left l.reps) (runs_left l.defs) (runs_left c.drop_copies.new.levels) (runs_left c.drop_packed.new.levels) next.goes_on none may.def_size (λ k h. omega (arith, (most k (omega (arith, h, size))).1, way.1, used.def_most)) next.zeros c.drop_copies.ensures.left defs l.at),
      size,
      omega (arith, may.rep_size),
      omega (arith, may.rep_size),
      rw zeros (sym (rows-zero 64 0 refl)),
      next.wanted,
    )

pub returns-clause-taken : goal.returns-clause-taken
unfolding levels_left
returns-clause-taken c =
    let l = c.args.levels.now in
    let used = c.requires.used in
    let next = c.requires.flat in
    let none : l.end - l.at ≡ 0 = omega (arith, used.used) in
    let rs = c.set_word.new.self in
    let ds = c.tell.new.told in
    let zeros : rs ≡ replicate 64 0 = c.set_word.ensures ∙ no-bits 64 in
    let may = c.may_begin-2.ensures c.if-not-may_begin-2.false c.args.before rs zeros in
    let way = c.requires.way in
    let size : length ds ≡ length rs = may.def_size ∙ sym may.rep_size in
    let most = follows-most (kept_way c.args.nested.now) c.args.before rs ds size may.follow in
    let defs = sym c.copied-next_defs.ensures.left ∙ c.tell.ensures.taken c.if-not-tell.false in (
      rw zeros (flat-first l.max_rep l.max_def 64 (l.end - l.at) l.reps.number ds l.failed l.rep_block l.def_block (runs_left l.reps) (runs_left l.defs) (runs_left c.drop_copies-2.new.levels) (runs_left c.tell.new.runs) next.goes_on none may.def_size (λ k h. omega (arith, (most k (omega (arith, h, size))).1, way.1, used.def_most)) next.zeros c.drop_copies-2.ensures.left defs l.at),
      size,
      omega (arith, may.rep_size),
      omega (arith, may.rep_size),
      rw zeros (sym (rows-zero 64 0 refl)),
      next.wanted,
    )

pub returns-then-are_packed-clause-may : goal.returns-then-are_packed-clause-may
returns-then-are_packed-clause-may c = c.may_begin.ensures c.if-not-may_begin.false c.args.before c.set_word.new.self (c.set_word.ensures ∙ no-bits 64)

pub returns-clause-may : goal.returns-clause-may
returns-clause-may c = c.may_begin-2.ensures c.if-not-may_begin-2.false c.args.before c.set_word.new.self (c.set_word.ensures ∙ no-bits 64)

pub may_begin-requires-clause-defs : goal.may_begin-requires-clause-defs
may_begin-requires-clause-defs c = rw c.tell_packed.ensures (length-digits (2 ^ c.args.levels.now.defs.runs.num_bits) 64 (number_of c.args.levels.now.defs.packed.now / 2 ^ c.args.levels.now.defs.shift))
