use Rattle.std.proofs.Common.{List, ℕ, sym, subst}
use Rattle.pq_runs.specs.Writing.{Keeps}
use Rattle.pq_runs.proofs.BitNumbers.{no_numbers}
use Rattle.pq_runs.proofs.writer.RunWriter.push_bits.Goals as goal

pub returns-then-count-eq0-clause-added : goal.returns-then-count-eq0-clause-added
returns-then-count-eq0-clause-added c = λ start xs k.
    subst (λ (ys : List ℕ). Keeps start c.args.out.now.items c.args.self.now ys) (sym (no_numbers c.args.low c.args.word c.args.count xs c.if-count-eq0.true)) k
