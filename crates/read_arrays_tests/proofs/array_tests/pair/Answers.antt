use Rattle.std.proofs.lemmas.Result.{IfOk-weaker}
use Rattle.read_arrays_tests.proofs.Pairs.{pair}
use Rattle.read_arrays_tests.proofs.array_tests.pair.Goals as goal

pub returns-clause-nesting : goal.returns-clause-nesting
returns-clause-nesting c = IfOk-weaker c.field-3.result _ _ (λ f h. (pair f c.in_ok-left.left c.in_ok-right.right c.in_ok-fields.fields h c.in_ok-fields.ensures.items c.in_ok-left.ensures c.in_ok-right.ensures).nests) c.field-3.ensures

pub returns-clause-structs : goal.returns-clause-structs
returns-clause-structs c = IfOk-weaker c.field-3.result _ _ (λ f h. (pair f c.in_ok-left.left c.in_ok-right.right c.in_ok-fields.fields h c.in_ok-fields.ensures.items c.in_ok-left.ensures c.in_ok-right.ensures).full) c.field-3.ensures
