use Rattle.std.proofs.Common.{◌≡◌, List, ℕ, ◌+◌, ◌-◌, ◌≤◌, ◌++◌, ◌∙◌, ap, arith, drop, length, sym, take}
use Rattle.std.proofs.lemmas.List.{length-take-le}
use Rattle.level_sections.proofs.SlotLevels.{take-among}
use Rattle.level_sections.proofs.level_bytes.LevelBytes.push_part.Goals as goal

pub returns : goal.returns
returns c =
    let n = c.args.to - c.args.from in
    let bytes = c.others.inside.bytes in
    let size : length (take c.others.inside.filled bytes) ≡ c.others.inside.filled = length-take-le c.others.inside.filled bytes (omega (arith, c.others.invariant, c.others.told)) in
    let all : length c.args.others.now ≡ c.others.inside.filled = ap length (sym c.others.view_is) ∙ size in
    let le : c.args.from + n ≤ c.others.inside.filled = omega (arith, c.requires.ordered, c.requires.within, all) in
    λ t. c.put_some.ensures.front ∙ (ap (λ (xs : List ℕ). xs ++ take n (drop c.args.from bytes)) c.self.view_is ∙ ap (λ (xs : List ℕ). c.args.self.now ++ xs) (sym (take-among n c.args.from c.others.inside.filled bytes le) ∙ ap (λ (xs : List ℕ). take n (drop c.args.from xs)) c.others.view_is))
