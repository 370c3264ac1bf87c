use Rattle.std.proofs.Common.{◌<◌, ◌^◌, map, min, take, arith, ap, ◌∙◌}
use Rattle.std.proofs.lemmas.List.{take_all, length-take-le}
use Rattle.std.proofs.lemmas.Simd.{Each1-weaker}
use Rattle.read_state.proofs.Narrowed.{selected, low-each, same-each}
use Rattle.read_state.proofs.words.narrowed.Goals as goal

pub overflow_cast-result : goal.overflow_cast-result
overflow_cast-result c =
    let levels = c.args.levels.now in
    rw (selected 64 (take 64 levels) (length-take-le 64 levels (omega (arith, c.requires)))) (Each1-weaker (λ x. x < 2 ^ 8) _ (λ x h. record { fits = h }) (map (λ d. min d 255) (take 64 levels)) (low-each (take 64 levels)))

pub returns : goal.returns
returns c =
    let levels = c.args.levels.now in
    ap (map (λ x. x)) (selected 64 (take 64 levels) (length-take-le 64 levels (omega (arith, c.requires)))) ∙ (same-each (map (λ d. min d 255) (take 64 levels)) ∙ ap (map (λ d. min d 255)) (take_all 64 levels (omega (arith, c.requires))))
