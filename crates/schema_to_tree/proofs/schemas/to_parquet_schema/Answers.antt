use Rattle.std.proofs.Common.{sym, inr, rules, arith}
use Rattle.std.proofs.lemmas.Result.{err_from_is_err_and}
use Rattle.columns_core.specs.View.{fields_view}
use Rattle.schema_to_tree.proofs.Depths.{depth-fields}
use Rattle.schema_to_tree.proofs.Faulty.{schema-written}
use Rattle.schema_to_tree.proofs.Order.{schema_deep, schema_timed, schema_given}
use Rattle.schema_to_tree.proofs.Rooted.{schema_answered, schema_short, schema_refuses}
use Rattle.schema_to_tree.proofs.schemas.to_parquet_schema.Goals as goal

pub returns-then-fields_tree_depth_to-ge-MAX_NESTING-clause-err : goal.returns-then-fields_tree_depth_to-ge-MAX_NESTING-clause-err
returns-then-fields_tree_depth_to-ge-MAX_NESTING-clause-err c = inr (omega (arith, depth-fields (fields_view c.args.schema.now.fields.items)))

pub returns-in_err-fields-clause-err : goal.returns-in_err-fields-clause-err
returns-in_err-fields-clause-err c =
    search (rules, err_from_is_err_and, schema_refuses (fields_view c.args.schema.now.fields.items) _ c.in_err-fields.ensures (sym c.if-have_bad_time64.ensures))

pub returns-clause-ok : goal.returns-clause-ok
returns-clause-ok c =
    let fs = fields_view c.args.schema.now.fields.items in
    schema_answered fs c.in_ok-fields.fields.items _ c.new.result c.new.ensures.name c.new.ensures.fields c.in_ok-name.ensures.ok c.in_ok-fields.ensures.0
    (schema-written fs c.in_ok-fields.ensures.1 (omega arith) (omega (arith, depth-fields fs)))

pub returns-clause-err : goal.returns-clause-err
returns-clause-err c =
    schema_short (fields_view c.args.schema.now.fields.items) c.in_ok-fields.fields.items c.new.result c.new.ensures.refused c.in_ok-fields.ensures.0

pub returns-then-fields_tree_depth_to-ge-MAX_NESTING-clause-first : goal.returns-then-fields_tree_depth_to-ge-MAX_NESTING-clause-first
returns-then-fields_tree_depth_to-ge-MAX_NESTING-clause-first c =
    let fs = fields_view c.args.schema.now.fields.items in schema_deep fs (omega (arith, depth-fields fs))

pub returns-then-have_bad_time64-clause-first : goal.returns-then-have_bad_time64-clause-first
returns-then-have_bad_time64-clause-first c =
    let fs = fields_view c.args.schema.now.fields.items in schema_timed fs (omega arith) (omega (arith, depth-fields fs)) (sym c.if-have_bad_time64.ensures)

pub returns-in_err-fields-clause-first : goal.returns-in_err-fields-clause-first
returns-in_err-fields-clause-first c =
    let fs = fields_view c.args.schema.now.fields.items in
    search (rules, err_from_is_err_and, schema_given fs _ c.in_err-fields.ensures (omega arith) (omega (arith, depth-fields fs)) (sym c.if-have_bad_time64.ensures))
