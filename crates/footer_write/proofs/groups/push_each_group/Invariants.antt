use Rattle.pq_files.specs.Written.{group_value}
use Rattle.footer_write.specs.FooterView.{row_group_view}
use Rattle.thrift_fields.proofs.Chains.{Left}
use Rattle.footer_write.proofs.groups.push_each_group.Given as goal

abbrev pub invariant-groups : goal.invariant-groups
invariant-groups l = Left (λ g. group_value (row_group_view g)) l.groups l.group-index l.initial.out.items l.out.items
