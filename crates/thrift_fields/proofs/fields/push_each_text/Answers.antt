use Rattle.std.specs.Prelude.{string_bytes}
use Rattle.pq_thrift.specs.Value.{binary}
use Rattle.thrift_fields.proofs.Chains.{all_done, of_views}
use Rattle.thrift_fields.proofs.fields.push_each_text.Goals as goal

pub returns : goal.returns
returns c = of_views binary string_bytes c.args.texts.now (all_done c.texts-test.false c.texts.invariant)
