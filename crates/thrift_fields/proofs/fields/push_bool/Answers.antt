use Rattle.std.proofs.Common.{◌++◌, ◌∙◌, ap, pos, rules}
use Rattle.pq_thrift.specs.Spelling.{field_head}
use Rattle.thrift_fields.proofs.Chains.{truth_field}
use Rattle.thrift_fields.proofs.fields.push_bool.Goals as goal

pub returns : goal.returns
returns c = truth_field (search rules) (c.in_ok-push_head.ensures ∙ ap (λ k. c.args.out.now.items ++ field_head (pos c.args.last) (pos c.args.id) k) c.truth_kind-kind.ensures.is)
