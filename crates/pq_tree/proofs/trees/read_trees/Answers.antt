use Rattle.std.proofs.Common.{◌≡◌, map, true, refl, sym, ◌∙◌, inl, inr}
use Rattle.pq_tree.specs.Forest.{RefusesTrees}
use Rattle.pq_tree.specs.TreeReading.{counted}
use Rattle.pq_tree.specs.TreeViews.{trees_view}
use Rattle.pq_tree.specs.Views.{element_view}
use Rattle.pq_tree.proofs.Preorder.{no_trees_counted, trees_refused, trees_found}
use Rattle.pq_tree.proofs.Refusals.{err_exit}
use Rattle.pq_tree.proofs.trees.read_trees.Goals as goal

pub returns-then-not-is_preorder-clause-refused : goal.returns-then-not-is_preorder-clause-refused
returns-then-not-is_preorder-clause-refused c = inr (inl (refl, no_trees_counted (map element_view c.args.elements.now) c.args.count (sym c.is_preorder.ensures ∙ c.if-not-is_preorder.true)))

pub returns-in_err-trees-clause-refused : goal.returns-in_err-trees-clause-refused
returns-in_err-trees-clause-refused c =
    let es = map element_view c.args.elements.now in
    let all : counted c.args.count es ≡ true = sym c.is_preorder.ensures ∙ c.if-not-is_preorder.false in
    err_exit c.from_residual.result (RefusesTrees es c.args.count) c.in_err-trees.field-0.0 c.from_residual.ensures.1 (trees_refused es c.args.count c.in_err-trees.field-0.0 all c.in_err-trees.ensures)

pub returns-clause-found : goal.returns-clause-found
returns-clause-found c =
    let es = map element_view c.args.elements.now in
    let all : counted c.args.count es ≡ true = sym c.is_preorder.ensures ∙ c.if-not-is_preorder.false in
    (trees_found es c.args.count (trees_view c.in_ok-trees.trees.items) (map element_view c.in_ok-trees.field-0-1.now) all c.in_ok-trees.ensures).0

pub returns-clause-shallow : goal.returns-clause-shallow
returns-clause-shallow c =
    let es = map element_view c.args.elements.now in
    let all : counted c.args.count es ≡ true = sym c.is_preorder.ensures ∙ c.if-not-is_preorder.false in
    (trees_found es c.args.count (trees_view c.in_ok-trees.trees.items) (map element_view c.in_ok-trees.field-0-1.now) all c.in_ok-trees.ensures).1
