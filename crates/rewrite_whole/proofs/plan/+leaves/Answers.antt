use Rattle.std.proofs.Common.{rules, ◌≡◌, ◌++◌, ◌∙◌, ap, sym}
use Rattle.pq_tree.specs.Tree.{Tree, group, leaves, leaves_of}
use Rattle.pq_tree.specs.TreeViews.{tree_view, trees_view, info_view}
use Rattle.pq_tree.specs.declared.types.ParquetType.{the_lemmas}
use Rattle.rewrite_whole.proofs.Plains.{named_under, on_ok}
use Rattle.columns_core.specs.View.{type_view}
use Rattle.rewrite_whole.specs.Plans.{names_of}
use Rattle.rewrite_whole.proofs.plan.+leaves.Goals as goal

pub push_encodings-returns-in-GroupType-clause-ok : goal.push_encodings-returns-in-GroupType-clause-ok
push_encodings-returns-in-GroupType-clause-ok t c =
    let g = c.in-GroupType in
    let info = info_view g.field_info g.converted_type g.logical_type in
    let viewed : tree_view c.args.node.now ≡ group info (trees_view g.fields.items) = search (rules, the_lemmas) in
    on_ok c.push_all_encodings.result _ _
    (λ e. e ∙ ap (λ q. c.args.encodings.now.items ++ q) (sym (named_under c.args.wants_deltas (type_view c.args.data_type.now) info (leaves_of (trees_view g.fields.items))) ∙ ap (λ (n : Tree). names_of c.args.wants_deltas (type_view c.args.data_type.now) (leaves n)) (sym viewed)))
    c.push_all_encodings.ensures.ok
