use Rattle.std.proofs.Common.{◌≡◌, ◌-◌, ◌+◌, ◌^◌, ◌<◌, ◌++◌, ◌∙◌, ℕ, List, All, drop, take, subst, sym, ap, arith}
use Rattle.std.proofs.lemmas.List.Elements.{All-drop, All-take}
use Rattle.pq_runs.specs.Writing.{Keeps}
use Rattle.level_sections.proofs.told_levels.push_some.Goals as goal

pub push_bytes-requires : goal.push_bytes-requires
push_bytes-requires c =
    let P = λ (v : ℕ). v < 2 ^ c.args.writer.now.width in
    record { low = subst (All P) (sym c.part.ensures) (All-take P c.min-count.result _ (All-drop P c.args.at c.args.bytes.now c.requires.holds)) }

pub returns-clause-added : goal.returns-clause-added
returns-clause-added c = λ start xs k.
    let n : c.args.at + c.min-count.result - c.args.at ≡ c.min-count.result = omega arith in
    subst (λ (ys : List ℕ). Keeps start c.push_bytes.new.out.items c.push_bytes.new.self (xs ++ ys)) (c.part.ensures ∙ ap (λ (i : ℕ). take i (drop c.args.at c.args.bytes.now)) (sym n)) (c.in_ok-push_bytes.ensures.added start xs k)
