use Rattle.std.proofs.Common.{rules, arith, subst, List, ℕ}
use Rattle.std.specs.Iterator.{Drains}
use Rattle.pq_runs.proofs.Steps.{zero_width, map_low, was_ok}
use Rattle.pq_runs.specs.Writing.{AppendsRuns}
use Rattle.pq_runs.proofs.encode.encode_u32.Goals as goal

pub returns-then-width-eq0-clause-ok : goal.returns-then-width-eq0-clause-ok
returns-then-width-eq0-clause-ok g c =
    let drains : Drains g.I.Iterator.next_gives c.args.values c.loop-value.yielded = search rules in
    (c.loop-value.yielded, drains, zero_width c.args.width c.args.out.now.items c.loop-value.yielded (omega arith) (c.requires.gives c.loop-value.yielded drains).1)

pub returns-clause-ok : goal.returns-clause-ok
returns-clause-ok g c =
    let f = was_ok c.encode_numbers.result c.if-is_err.ensures.value c.encode_numbers.ensures.ok in
    (f.0, f.1, subst (λ (vs : List ℕ). AppendsRuns c.args.width c.args.out.now.items c.encode_numbers.new.out.items vs) (map_low c.args.width f.0 (c.requires.gives f.0 f.1).1) f.2)
