use Rattle.std.proofs.Common.{sym, ◌∙◌, ap, inr, arith}
use Rattle.columns_core.specs.View.{field_view}
use Rattle.columns_core.specs.Measures.{field_nesting}
use Rattle.schema_to_tree.specs.Depth.{field_tree_depth}
use Rattle.schema_to_tree.specs.Conditions.{is_bad_time64, some_field}
use Rattle.schema_to_tree.proofs.Depths.{depth-field}
use Rattle.schema_to_tree.proofs.Joined.{seen}
use Rattle.schema_to_tree.proofs.Faulty.{answered, refused_or_short}
use Rattle.schema_to_tree.proofs.Order.{field_deep, field_timed, field_given}
use Rattle.schema_to_tree.proofs.trees.to_parquet_type.Goals as goal

pub returns-then-tree_depth_to-gt-MAX_NESTING-clause-err : goal.returns-then-tree_depth_to-gt-MAX_NESTING-clause-err
returns-then-tree_depth_to-gt-MAX_NESTING-clause-err c =
    let f = c.args.field.now in inr (omega (arith, depth-field (field_view f) ∙ ap field_tree_depth (seen f)))

pub returns-clause-ok : goal.returns-clause-ok
returns-clause-ok c =
    let f = c.args.field.now in
    answered _ _ (field_view f) _ c.field_tree.ensures (omega (arith, ap field_nesting (seen f))) (omega (arith, depth-field (field_view f) ∙ ap field_tree_depth (seen f)))

pub returns-clause-err : goal.returns-clause-err
returns-clause-err c =
    let f = c.args.field.now in
    refused_or_short _ _ (field_view f) _ c.field_tree.ensures (ap (some_field is_bad_time64) (seen f) ∙ sym c.if-has_bad_time64.ensures)

pub returns-then-tree_depth_to-gt-MAX_NESTING-clause-first : goal.returns-then-tree_depth_to-gt-MAX_NESTING-clause-first
returns-then-tree_depth_to-gt-MAX_NESTING-clause-first c =
    let f = c.args.field.now in field_deep (field_view f) (omega (arith, depth-field (field_view f) ∙ ap field_tree_depth (seen f)))

pub returns-then-has_bad_time64-clause-first : goal.returns-then-has_bad_time64-clause-first
returns-then-has_bad_time64-clause-first c =
    let f = c.args.field.now in
    field_timed (field_view f) (omega (arith, ap field_nesting (seen f))) (omega (arith, depth-field (field_view f) ∙ ap field_tree_depth (seen f))) (ap (some_field is_bad_time64) (seen f) ∙ sym c.if-has_bad_time64.ensures)

pub returns-clause-first : goal.returns-clause-first
returns-clause-first c =
    let f = c.args.field.now in
    field_given _ _ (field_view f) _ c.field_tree.ensures (omega (arith, ap field_nesting (seen f))) (omega (arith, depth-field (field_view f) ∙ ap field_tree_depth (seen f))) (ap (some_field is_bad_time64) (seen f) ∙ sym c.if-has_bad_time64.ensures)
