use Rattle.std.proofs.Common.{◌<◌, ◌^◌, ◌∙◌, rules, subst, sym}
use Rattle.pq_thrift.specs.Value.{values_view, view}
use Rattle.thrift_fields.specs.Appended.{AppendsValues}
use Rattle.thrift_fields.proofs.Chains.{count_is, list_field}
use Rattle.footer_write.proofs.footer.push_structs.Goals as goal

pub returns-clause-ok : goal.returns-clause-ok
returns-clause-ok c =
    let xs = c.args.values.now.items in
    let small : c.len.result < 2 ^ 64 = search rules in
    list_field (search rules) small (c.len.ensures ∙ c.args.values.now.ok.0 ∙ sym (count_is view xs)) c.in_ok-push_list_head.ensures
    (subst (λ xs. AppendsValues (values_view xs) c.push_list_head.new.out.items c.push_each_struct.new.out.items) c.deref.ensures.value c.in_ok-push_each_struct.ensures.ok)
