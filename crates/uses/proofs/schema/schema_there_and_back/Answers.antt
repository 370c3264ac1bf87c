use Rattle.columns_core.specs.View.{schema_view}
use Rattle.uses.proofs.Attached.{told, attached}
use Rattle.uses.proofs.Alone.{wants_memory}
use Rattle.uses.proofs.schema.schema_there_and_back.Goals as goal

pub returns-clause-ok : goal.returns-clause-ok
returns-clause-ok g c =
    told schema_view _ (schema_view c.args.schema.now) c.infer_schema.result
    (attached (λ s. g.C.SchemaCodec.bytes_of c.args.codec.now s) (g.C.SchemaCodec.reads c.args.codec.now) (schema_view c.args.schema.now) c.in_ok-key_value_metadata.key_value_metadata _ c.attached_schema_is_inferred.ensures c.in_ok-key_value_metadata.ensures.ok c.in_ok-key_value_metadata.ensures.small c.in_ok-key_value_metadata.ensures.decodable)
    c.infer_schema.ensures.ok

pub returns-clause-err : goal.returns-clause-err
returns-clause-err g c =
    wants_memory _ (schema_view c.args.schema.now) (g.C.SchemaCodec.bytes_of c.args.codec.now (schema_view c.args.schema.now)) c.infer_schema.result
    (attached (λ s. g.C.SchemaCodec.bytes_of c.args.codec.now s) (g.C.SchemaCodec.reads c.args.codec.now) (schema_view c.args.schema.now) c.in_ok-key_value_metadata.key_value_metadata _ c.attached_schema_is_inferred.ensures c.in_ok-key_value_metadata.ensures.ok c.in_ok-key_value_metadata.ensures.small c.in_ok-key_value_metadata.ensures.decodable)
    c.requires c.infer_schema.ensures.err
