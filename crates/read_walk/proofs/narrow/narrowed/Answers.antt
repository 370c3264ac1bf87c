use Rattle.std.proofs.Common.{take, arith, ◌∙◌}
use Rattle.std.proofs.lemmas.List.{take_all}
use Rattle.std.proofs.lemmas.Simd.{Each1-from_get_or}
use Rattle.read_state.proofs.Narrowed.{same-each}
use Rattle.read_walk.proofs.narrow.narrowed.Goals as goal

pub overflow_cast-result : goal.overflow_cast-result
overflow_cast-result c =
    let whole = take_all 64 c.args.levels.now (omega (arith, c.requires.size)) in
    rw whole (Each1-from_get_or _ c.args.levels.now 0 (λ k h. record { fits = omega (arith, c.requires.small k h) }))

pub returns : goal.returns
returns c = same-each (take 64 c.args.levels.now) ∙ take_all 64 c.args.levels.now (omega (arith, c.requires.size))
