use Rattle.pq_files.specs.Written.{empty, one}
use Rattle.thrift_fields.proofs.Chains.{Left}
use Rattle.footer_write.proofs.footer.push_each_order.Given as goal

abbrev pub invariant-columns : goal.invariant-columns
invariant-columns l = Left (λ d. one 1 empty) l.columns l._column-index l.initial.out.items l.out.items
