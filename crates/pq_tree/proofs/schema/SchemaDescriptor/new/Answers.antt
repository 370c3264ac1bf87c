use Rattle.std.proofs.Common.{◌∙◌, rules, arith}
use Rattle.pq_tree.specs.TreeViews.{trees_view}
use Rattle.pq_tree.proofs.Walked.{columns_walked}
use Rattle.pq_tree.proofs.schema.SchemaDescriptor.new.Goals as goal

pub invariant_of-result : goal.invariant_of-result
invariant_of-result c = (rw c.new-columns.ensures.items at c.in_ok-push_all_columns.ensures.found ∙ columns_walked (trees_view c.args.fields.items), c.if-not-all_nest_within.ensures.0 (first_of (cc, search rules, grind arith)))
