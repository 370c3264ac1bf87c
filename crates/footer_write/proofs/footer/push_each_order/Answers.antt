use Rattle.pq_files.specs.Written.{empty, one}
use Rattle.thrift_fields.proofs.Chains.{all_done, goes_on, starts}
use Rattle.footer_write.proofs.footer.push_each_order.Goals as goal

pub columns-init : goal.columns-init
columns-init c = starts (λ d. one 1 empty) c.args.columns.now c.args.out.now.items

pub columns-preserved : goal.columns-preserved
columns-preserved c = goes_on c._column-item.result c.columns-test.true c._column-item.is c.in_ok-push_order.ensures c.columns.invariant

pub returns : goal.returns
returns c = all_done c.columns-test.false c.columns.invariant
