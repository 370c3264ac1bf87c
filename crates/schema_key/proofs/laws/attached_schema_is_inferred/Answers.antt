use Rattle.columns_core.specs.View.{schema_view}
use Rattle.schema_key.proofs.laws.attached_schema_is_inferred.Goals as goal

pub returns : goal.returns
returns g c = λ keys columns small decodable. c.attached_is_inferred.ensures (schema_view c.args.schema.now) keys columns c.know_schema.ensures c.requires small decodable
