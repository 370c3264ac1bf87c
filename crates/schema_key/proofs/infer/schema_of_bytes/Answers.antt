use Rattle.std.proofs.Common.{◌∙◌, option_map, sym, ap, arith}
use Rattle.columns_core.specs.View.{schema_view}
use Rattle.schema_key.proofs.infer.schema_of_bytes.Goals as goal

pub returns-in-Ok-Some-clause-shallow : goal.returns-in-Ok-Some-clause-shallow
returns-in-Ok-Some-clause-shallow g c =
    g.met.C.SchemaCodec.shallow c.args.codec.now c.args.bytes.now (schema_view c.in-Ok-Some.schema) (λ i. omega (arith, c.type_inv.bytes i)) (sym c.in-Ok-Some.ensures.ok ∙ ap (option_map schema_view) c.in-Ok-Some.field-0-is)
