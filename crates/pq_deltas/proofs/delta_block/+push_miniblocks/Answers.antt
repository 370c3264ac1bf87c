use Rattle.std.proofs.Common.{◌≡◌, ◌<◌, ◌≤◌, ◌^◌, ℕ, List, [], ◌++◌, length, take, get_or, All, rules, arith, ap, subst, sym, ◌∙◌, append-nil, append_assoc}
use Rattle.std.proofs.lemmas.List.{length-take}
use Rattle.pq_runs.specs.WrittenDelta.{WrittenMiniblocks}
use Rattle.pq_runs.proofs.DeltaParts.{first_widths, mini_step, mini_size, no_numbers, none_there, all_none, below_rest, fit_there, take_rest}
use Rattle.pq_runs.proofs.Steps.{finished}
use Rattle.pq_deltas.proofs.delta_block.+push_miniblocks.Goals as goal

pub returns-then-is_empty-clause-ok : goal.returns-then-is_empty-clause-ok
returns-then-is_empty-clause-ok t c =
    let none : length c.args.numbers.now ≡ 0 = search rules in
    ([], sym (append-nil c.args.out.now.items), λ most below. none_there most c.args.widths.now c.args.numbers.now c.requires none, omega arith)

pub push_miniblock-requires-clause-few : goal.push_miniblock-requires-clause-few
push_miniblock-requires-clause-few t c = rw c.first_of.ensures (omega (arith, length-take 32 c.args.numbers.now))

pub push_miniblock-requires-clause-below : goal.push_miniblock-requires-clause-below
push_miniblock-requires-clause-below t c =
    let first = first_widths c.args.widths.now c.args.numbers.now 0 (omega arith) c.requires in
    subst (λ (w : ℕ). All (λ v. v < 2 ^ w) c.first_of.result.now) (sym c.from.ensures) (fit_there (get_or c.args.widths.now 0 0) (take 32 c.args.numbers.now) c.first_of.result.now (sym c.first_of.ensures) first.1.holds)

pub returns-in_ok-push_miniblock-in-len1-up-clause-ok : goal.returns-in_ok-push_miniblock-in-len1-up-clause-ok
returns-in_ok-push_miniblock-in-len1-up-clause-ok t c =
    let e = c.in_ok-push_miniblock-in-len1-up.ensures.ok in
    let some : 0 < length c.args.numbers.now = search rules in
    let first = first_widths c.args.widths.now c.args.numbers.now 0 c.in-len1-up.len_at_least c.requires in
    let fits : c.from.result ≤ 64 = subst (λ (w : ℕ). w ≤ 64) (sym c.from.ensures) first.0 in
    finished c.push_miniblocks.result (λ z. (
      e.0 ++ z.0,
      z.1 ∙ ap (λ (t : List ℕ). t ++ z.0) e.1 ∙ append_assoc c.args.out.now.items e.0 z.0,
      λ most below. mini_step most c.from.result c.args.widths.now c.args.numbers.now c.first_of.result.now c.others_of.result.now e.0 z.0 c.in-len1-up.len_at_least c.requires some c.from.ensures c.first_of.ensures c.others_of.ensures e.2 e.3
          (subst (λ (ws : List ℕ). WrittenMiniblocks most ws z.0 c.others_of.result.now) (take_rest 1 c.args.widths.now) (z.2 most (below_rest most c.args.numbers.now c.others_of.result.now c.others_of.ensures below))) below,
      mini_size c.from.result c.args.numbers.now c.others_of.result.now e.0 z.0 fits some c.others_of.ensures e.2 (λ none. no_numbers 64 _ z.0 c.others_of.result.now (z.2 64 (all_none 64 c.others_of.result.now none)) none) z.3,
    )) c.push_miniblocks.ensures.ok
