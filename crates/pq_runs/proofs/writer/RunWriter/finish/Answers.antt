use Rattle.std.proofs.Common.{ap, subst, ℕ}
use Rattle.pq_runs.specs.Writing.{AppendsRuns, Waiting}
use Rattle.pq_runs.proofs.Kept.{keeps_end, both_ok}
use Rattle.pq_runs.proofs.writer.RunWriter.finish.Goals as goal

pub returns-clause-ok : goal.returns-clause-ok
returns-clause-ok c =
    both_ok c.push_last.result
    (λ h size start xs k. subst (λ (width : ℕ). AppendsRuns width start c.push_last.new.out.items xs) (ap (λ (w : Waiting). w.width) c.self.view_is)
    (keeps_end start c.args.out.now.items c.settle.new.out.items c.push_last.new.out.items c.self.inside.width c.self.inside.block c.settle.new.block c.self.inside.number c.self.inside.count xs c.in_ok-settle.ensures.wrote c.in_ok-settle.ensures.tight h c.in_ok-settle.ensures.short size (rw (← c.self.view_is) at k)))
    c.push_last.ensures.ok c.push_last.ensures.size
