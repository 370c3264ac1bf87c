use Rattle.std.proofs.Common.{◌∙◌, sym, ap}
use Rattle.std.specs.Prelude.{option_map}
use Rattle.pq_thrift.specs.Value.{field_view}
use Rattle.pq_container.proofs.Lookups.{last_field-get}
use Rattle.pq_container.proofs.fields.last_member.Goals as goal

pub returns : goal.returns
returns c = ap (option_map field_view) c.last.ensures.value ∙ sym (last_field-get c.args.fields.now)
