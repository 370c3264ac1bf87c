use Rattle.std.proofs.Common.{◌≡◌, ◌+◌, [], subst, sym, ap, ◌∙◌, List, ℕ, drop, take, length, arith}
use Rattle.std.proofs.lemmas.List.{length-append}
use Rattle.pq_runs.specs.Packing.{ArePacked}
use Rattle.pq_runs.proofs.Groups.{Grouped, grouped_more, grouped_end, below_eight}
use Rattle.pq_runs.proofs.group.put_groups.Goals as goal

pub put_group-requires-clause-below : goal.put_group-requires-clause-below
put_group-requires-clause-below c =
    below_eight c.args.width [] (take c.loop-rest.at c.loop-rest.places) c.first_eight.result (drop 8 c.loop-rest.rest.now) c.args.numbers.now c.requires.below
    (subst (λ (t : List ℕ). Grouped c.args.width [] (take c.loop-rest.at c.loop-rest.places) t c.args.numbers.now) c.first_eight.ensures.front c.loop-rest.invariant.grouped)

pub loop-rest-preserved : goal.loop-rest-preserved
loop-rest-preserved c =
    let e = c.put_group.ensures.put in
    let n : length c.loop-rest.rest.now ≡ 8 + length (drop 8 c.loop-rest.rest.now) = ap length c.first_eight.ensures.front ∙ length-append c.first_eight.result (drop 8 c.loop-rest.rest.now) ∙ ap (λ (k : ℕ). k + length (drop 8 c.loop-rest.rest.now)) c.first_eight.ensures.eight in
    rw c.behind_eight-rest.ensures (record {
      room = omega (arith, n, c.loop-rest.invariant.room, c.put_group.ensures.len, c.requires.fits);
      grouped =
          grouped_more c.args.width [] (take c.loop-rest.at c.loop-rest.places) (take (c.loop-rest.at + c.args.width) c.put_group.new.places) c.first_eight.result (drop 8 c.loop-rest.rest.now) c.args.numbers.now e.0 c.first_eight.ensures.eight e.2 e.3 e.1
          (subst (λ (t : List ℕ). Grouped c.args.width [] (take c.loop-rest.at c.loop-rest.places) t c.args.numbers.now) c.first_eight.ensures.front c.loop-rest.invariant.grouped);
    })

pub returns-clause-are : goal.returns-clause-are
returns-clause-are c =
    let e = grouped_end c.args.width [] (take c.loop-rest.at c.loop-rest.places) c.loop-rest.rest.now c.args.numbers.now c.requires.below c.requires.whole (omega arith) c.loop-rest.invariant.grouped in
    subst (λ (t : List ℕ). ArePacked c.args.width c.args.numbers.now t) (sym e.1) e.2
