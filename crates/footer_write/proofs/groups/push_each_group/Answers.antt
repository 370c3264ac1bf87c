use Rattle.pq_files.specs.Written.{group_value}
use Rattle.footer_write.specs.FooterView.{row_group_view}
use Rattle.thrift_fields.proofs.Chains.{all_done, goes_on, of_views}
use Rattle.footer_write.proofs.groups.push_each_group.Goals as goal

pub groups-preserved : goal.groups-preserved
groups-preserved c = goes_on c.group-item.result c.groups-test.true c.group-item.is c.in_ok-push_group.ensures c.groups.invariant

pub returns : goal.returns
returns c = of_views group_value row_group_view c.args.groups.now (all_done c.groups-test.false c.groups.invariant)
