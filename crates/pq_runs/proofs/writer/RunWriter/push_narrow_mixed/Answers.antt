use Rattle.std.proofs.Common.{ℕ, List, ◌≡◌, ◌-◌, ◌++◌, [], ◌∷◌, length, get_or, sym, ap, ◌∙◌}
use Rattle.pq_runs.proofs.Steps.{was_ok}
use Rattle.pq_runs.proofs.Mixed.{keeps_mixed, last_behind}
use Rattle.pq_runs.proofs.writer.RunWriter.push_narrow_mixed.Goals as goal

pub returns-clause-added : goal.returns-clause-added
returns-clause-added c =
    let last : ℕ = c.from-self-inside.result in
    let e : c.args.numbers.now ≡ c.narrow_front.result.now ++ last ∷ [] = last_behind c.args.numbers.now c.requires.some ∙ ap (λ (t : List ℕ). t ++ get_or c.args.numbers.now (length c.args.numbers.now - 1) 0 ∷ []) (sym c.narrow_front.ensures) ∙ ap (λ (x : ℕ). c.narrow_front.result.now ++ x ∷ []) (sym c.from-self-inside.ensures) in
    λ start xs k.
    keeps_mixed start c.args.out.now.items c.settle-settled.new.out.items c.pack_narrow-packed.new.out.items c.self.inside.width c.self.inside.block c.settle-settled.new.block c.pack_narrow-packed.new.block c.self.inside.number c.self.inside.count last c.narrow_front.result.now c.args.numbers.now xs e c.requires.mixed
    (was_ok c.settle-settled.result c.if-is_err.ensures.value c.settle-settled.ensures.short) (was_ok c.settle-settled.result c.if-is_err.ensures.value c.settle-settled.ensures.wrote) (was_ok c.settle-settled.result c.if-is_err.ensures.value c.settle-settled.ensures.tight)
    (was_ok c.pack_narrow-packed.result c.if-is_err-2.ensures.value c.pack_narrow-packed.ensures.short) (was_ok c.pack_narrow-packed.result c.if-is_err-2.ensures.value c.pack_narrow-packed.ensures.wrote) (was_ok c.pack_narrow-packed.result c.if-is_err-2.ensures.value c.pack_narrow-packed.ensures.tight) (rw (← c.self.view_is) at k)
