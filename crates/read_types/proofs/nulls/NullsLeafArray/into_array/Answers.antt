use Rattle.columns_core.specs.View.{type_view}
use Rattle.read_types.proofs.NullsRead.{null_leaf}
use Rattle.read_types.proofs.nulls.NullsLeafArray.into_array.Goals as goal

pub returns-in-Ok-clause-ok : goal.returns-in-Ok-clause-ok
returns-in-Ok-clause-ok c = rw c.in-Ok.ensures.ok (null_leaf (type_view c.args.data_type) c.args.values.count)
