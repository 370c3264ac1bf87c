use Rattle.std.proofs.Common.{◌<◌, ◌^◌, ◌∙◌, map, rules, subst, sym}
use Rattle.std.specs.Prelude.{string_bytes}
use Rattle.pq_thrift.specs.Value.{binary, values_of}
use Rattle.thrift_fields.specs.Appended.{AppendsValues}
use Rattle.thrift_fields.proofs.Chains.{count_of, list_field}
use Rattle.thrift_fields.proofs.fields.push_texts.Goals as goal

pub returns : goal.returns
returns c =
    let xs = c.args.texts.now.items in
    let small : c.len.result < 2 ^ 64 = search rules in
    list_field (search rules) small (c.len.ensures ∙ c.args.texts.now.ok.0 ∙ sym (count_of binary string_bytes xs)) c.in_ok-push_list_head.ensures
    (subst (λ xs. AppendsValues (values_of (map binary (map string_bytes xs))) c.push_list_head.new.out.items c.push_each_text.new.out.items) c.deref.ensures.value c.in_ok-push_each_text.ensures)
