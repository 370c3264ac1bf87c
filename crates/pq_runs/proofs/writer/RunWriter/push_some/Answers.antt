use Rattle.std.proofs.Common.{◌≡◌, ◌≤◌, ◌^◌, arith, sym}
use Rattle.pq_runs.proofs.Steps.{was_ok}
use Rattle.pq_runs.proofs.Kept.{keeps_more, keeps_settled}
use Rattle.pq_runs.proofs.writer.RunWriter.push_some.Goals as goal
use Rattle.pq_runs.proofs.writer.RunWriter.push_some.Goals.{else-number-self-via-then-number-self+else-self-lt-MOST_COPIES, else-number-self-via-else-number-self}

pub returns-then-self-lt-MOST_COPIES-clause-added : goal.returns-then-self-lt-MOST_COPIES-clause-added
returns-then-self-lt-MOST_COPIES-clause-added c = λ start xs k.
    rw c.if-number-self.true (keeps_more start c.args.out.now.items c.self.inside.width c.self.inside.block c.self.inside.number c.self.inside.count c.args.count xs (rw (← c.self.view_is) at k))

pub returns-clause-added : goal.returns-clause-added
returns-clause-added c =
    let ends : c.self.inside.number ≡ c.args.number → 2 ^ 40 ≤ c.self.inside.count = λ e. elim c.else-number-self.branch [
      | else-number-self-via-then-number-self+else-self-lt-MOST_COPIES w ↦ omega (arith, w.if-self-lt-MOST_COPIES.false)
      | else-number-self-via-else-number-self w ↦ absurd (w.if-number-self.false (sym e))
    ] in
    λ start xs k.
    keeps_settled start c.args.out.now.items c.settle-settled.new.out.items c.self.inside.width c.self.inside.block c.settle-settled.new.block c.self.inside.number c.self.inside.count c.args.number c.args.count xs c.requires.some ends
    (was_ok c.settle-settled.result c.if-is_err.ensures.value c.settle-settled.ensures.short) (was_ok c.settle-settled.result c.if-is_err.ensures.value c.settle-settled.ensures.wrote) (was_ok c.settle-settled.result c.if-is_err.ensures.value c.settle-settled.ensures.tight) (rw (← c.self.view_is) at k)
