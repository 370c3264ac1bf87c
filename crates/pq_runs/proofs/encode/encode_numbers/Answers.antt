use Rattle.std.proofs.Common.{ℕ, ◌^◌, ◌%◌, rules, map, subst}
use Rattle.std.specs.Iterator.{Drains}
use Rattle.pq_runs.specs.Writing.{AppendsRuns}
use Rattle.pq_runs.proofs.Steps.{finished}
use Rattle.pq_runs.proofs.encode.encode_numbers.Goals as goal

pub returns-clause-ok : goal.returns-clause-ok
returns-clause-ok g c =
    let drains : Drains g.I.Iterator.next_gives c.args.values c.loop-value.yielded = search rules in
    finished c.finish.result (λ f. (c.loop-value.yielded, drains, subst (λ (w : ℕ). AppendsRuns w c.args.out.now.items c.finish.new.out.items (map (λ (v : ℕ). v % 2 ^ c.args.width) c.loop-value.yielded)) c.loop-value.invariant.width (f c.args.out.now.items _ c.loop-value.invariant.keeps))) c.finish.ensures.ok
