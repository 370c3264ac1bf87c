use Rattle.std.proofs.Common.{◌<◌, ◌^◌, ◌∙◌, map, rules, subst, sym}
use Rattle.pq_thrift.specs.Value.{values_of}
use Rattle.pq_files.specs.Written.{group_value}
use Rattle.footer_write.specs.FooterView.{row_group_view}
use Rattle.thrift_fields.specs.Appended.{AppendsValues}
use Rattle.thrift_fields.proofs.Chains.{count_of, list_field}
use Rattle.footer_write.proofs.groups.push_groups.Goals as goal

pub returns : goal.returns
returns c =
    let xs = c.args.groups.now.items in
    let small : c.len.result < 2 ^ 64 = search rules in
    list_field (search rules) small (c.len.ensures ∙ c.args.groups.now.ok.0 ∙ sym (count_of group_value row_group_view xs)) c.in_ok-push_list_head.ensures
    (subst (λ xs. AppendsValues (values_of (map group_value (map row_group_view xs))) c.push_list_head.new.out.items c.push_each_group.new.out.items) c.deref.ensures.value c.in_ok-push_each_group.ensures)
