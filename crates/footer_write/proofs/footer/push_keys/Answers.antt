use Rattle.pq_files.specs.Written.{key_value}
use Rattle.pq_tree.specs.Views.{key_view}
use Rattle.thrift_fields.proofs.Chains.{all_done, goes_on, of_views}
use Rattle.footer_write.proofs.footer.push_keys.Goals as goal

pub pairs-preserved : goal.pairs-preserved
pairs-preserved c = goes_on c.pair-item.result c.pairs-test.true c.pair-item.is c.in_ok-push_key.ensures c.pairs.invariant

pub returns : goal.returns
returns c = of_views key_value key_view c.args.pairs.now (all_done c.pairs-test.false c.pairs.invariant)
