use Rattle.std.proofs.Common.{◌≡◌, ℕ, ◌+◌, ◌∙◌, ap, arith, drop, get_or, sym, take}
use Rattle.std.proofs.lemmas.List.{get_or-drop, get_or-take, length-drop, length-take-le}
use Rattle.level_sections.proofs.FullLists.{apart-at}
use Rattle.level_sections.proofs.raising.full_lists.Goals as goal

pub returns : goal.returns
returns c i few e =
    let edges = c.args.edges.now in
    let starts = take 64 (take 64 edges) in
    let stops = take 64 (take 64 (drop 1 edges)) in
    let n = length-take-le 64 edges (omega (arith, c.well_formed)) in
    let m = length-take-le 64 (drop 1 edges) (omega (arith, length-drop 1 edges, c.well_formed)) in
    let next : 1 + i ≡ i + 1 = omega arith in
    let is = apart-at starts stops c.args.word i (length-take-le 64 (take 64 edges) (omega (arith, n))) (length-take-le 64 (take 64 (drop 1 edges)) (omega (arith, m))) few e in
    let start = get_or-take 64 (take 64 edges) i 0 few ∙ get_or-take 64 edges i 0 few in
    let stop = get_or-take 64 (take 64 (drop 1 edges)) i 0 few ∙ (get_or-take 64 (drop 1 edges) i 0 few ∙ (get_or-drop 1 edges i 0 ∙ ap (λ (k : ℕ). get_or edges k 0) next)) in
    (is.0, λ same. is.1 (start ∙ (same ∙ sym stop)))
