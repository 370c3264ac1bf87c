use Rattle.std.proofs.lemmas.Result.{on_ok_weaker, IfErr-weaker}
use Rattle.read_leaf.proofs.BitRuns.{run-valid, run-cannot, run-null}
use Rattle.read_leaf.proofs.fixed_bytes.push_run.Goals as goal

pub returns-then-is_valid-clause-ok : goal.returns-then-is_valid-clause-ok
returns-then-is_valid-clause-ok c = rw c.if-is_valid.true (on_ok_weaker c.push_valid.result (λ d. run-valid c.args.count _ _ _ _ d) c.push_valid.ensures.ok)

pub returns-then-is_valid-clause-err : goal.returns-then-is_valid-clause-err
returns-then-is_valid-clause-err c = rw c.if-is_valid.true (IfErr-weaker c.push_valid.result _ _ (λ e d. run-cannot 0 c.args.count _ _ e d) c.push_valid.ensures.err)

pub returns-else-is_valid-clause-ok : goal.returns-else-is_valid-clause-ok
returns-else-is_valid-clause-ok c = rw c.if-is_valid.false (on_ok_weaker c.push_null.result (λ p. run-null c.args.count _ _ _ p) c.push_null.ensures.ok)
