use Rattle.std.proofs.Common.{◌≡◌, ◌+◌, ◌++◌, ◌∷◌, [], ◌∙◌, ℕ, List, ap, append_assoc, arith, length, sym, take}
use Rattle.std.proofs.lemmas.List.{length-append, length-take, take_more}
use Rattle.pq_runs.proofs.numbers.Numbers.append_narrow.Goals as goal

pub push-requires : goal.push-requires
push-requires c = omega (arith, ap length c.loop-number.invariant, length-append c.args.self.now (take c.loop-number.number-index c.args.numbers.now), length-take c.loop-number.number-index c.args.numbers.now, c.loop-number-test.true, c.requires)

pub loop-number-preserved : goal.loop-number-preserved
loop-number-preserved c =
    let next : take (c.loop-number.number-index + 1) c.args.numbers.now ≡ take c.loop-number.number-index c.args.numbers.now ++ c.from.result ∷ [] = take_more c.args.numbers.now c.loop-number.number-index 0 c.loop-number-test.true ∙ ap (λ (x : ℕ). take c.loop-number.number-index c.args.numbers.now ++ x ∷ []) (sym c.from.ensures) in
    c.push.ensures ∙ (ap (λ (t : List ℕ). t ++ c.from.result ∷ []) c.loop-number.invariant ∙ (append_assoc c.args.self.now (take c.loop-number.number-index c.args.numbers.now) (c.from.result ∷ []) ∙ ap (λ (t : List ℕ). c.args.self.now ++ t) (sym next)))
