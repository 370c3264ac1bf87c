use Rattle.schema_key.proofs.Again.{inferred_again}
use Rattle.schema_key.proofs.laws.attached_is_inferred.Goals as goal

pub returns : goal.returns
returns g c = inferred_again (g.C.SchemaCodec.bytes_of c.args._codec.now) (g.C.SchemaCodec.reads c.args._codec.now) (g.met.C.SchemaCodec.read_again c.args._codec.now)
