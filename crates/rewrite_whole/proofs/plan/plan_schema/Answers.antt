use Rattle.std.proofs.Common.{rules, ◌∙◌, ap, sym}
use Rattle.columns_core.specs.View.{schema_view, fields_of}
use Rattle.pq_tree.specs.TreeViews.{metadata_view, trees_view}
use Rattle.schema_from_tree.specs.FromTree.{arrow_fields}
use Rattle.schema_key.specs.Inferred.{inferred}
use Rattle.rewrite_whole.proofs.Plains.{same_keys, some_fields}
use Rattle.rewrite_whole.proofs.plan.plan_schema.Goals as goal

pub returns-clause-ok : goal.returns-clause-ok
returns-clause-ok g c = record {
  infers = ap (λ keys. inferred (g.C.SchemaCodec.reads c.args.codec.now) c.args.rule keys (fields_of (arrow_fields (trees_view c.args.metadata.now.schema_descr.fields)))) (sym (same_keys c.args.metadata.now.key_value_metadata)) ∙ c.in-Ok.ensures.ok;
  nesting = c.in-Ok.ensures.shallow;
  fits = c.settled_schemas_fit.ensures (schema_view c.in-Ok.schema).fields (metadata_view c.args.metadata.now) (some_fields c.in-Ok.schema.fields.items (search rules)) (search rules) c.in-Ok-tree_to_write.ensures.ok.1 (search rules) (search rules);
  tree = c.in-Ok-tree_to_write.ensures.ok.0;
  encodings = search rules;
}
