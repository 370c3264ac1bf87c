use Rattle.std.proofs.Common.{◌<◌, ◌^◌, ◌∙◌, map, rules, subst, sym}
use Rattle.pq_thrift.specs.Value.{int32, values_of}
use Rattle.thrift_fields.specs.Appended.{AppendsValues}
use Rattle.thrift_fields.proofs.Chains.{count_is, list_field}
use Rattle.thrift_fields.proofs.fields.push_numbers.Goals as goal

pub returns : goal.returns
returns c =
    let xs = c.args.numbers.now.items in
    let small : c.len.result < 2 ^ 64 = search rules in
    list_field (search rules) small (c.len.ensures ∙ c.args.numbers.now.ok.0 ∙ sym (count_is int32 xs)) c.in_ok-push_list_head.ensures
    (subst (λ xs. AppendsValues (values_of (map int32 xs)) c.push_list_head.new.out.items c.push_each_number.new.out.items) c.deref.ensures.value c.in_ok-push_each_number.ensures)
