use Rattle.std.proofs.Common.{List, map, ap, sym, subst, ◌∙◌}
use Rattle.shredding.specs.Parts.{Part}
use Rattle.shredding.specs.Shape.{ways}
use Rattle.columns_slots.specs.Slots.{slots}
use Rattle.columns_array.specs.Boxed.{boxed}
use Rattle.pq_tree.specs.TreeViews.{tree_view}
use Rattle.nested_paths.specs.Leaves.{array_leaves}
use Rattle.nested_paths.specs.Paths.{paths}
use Rattle.nested_paths.specs.Seen.{read_by, shape_by, AreSeen}
use Rattle.nested_paths.specs.Levels.{path_levels}
use Rattle.nested_paths.specs.Kinds.{kinds}
use Rattle.nested_paths.proofs.Widths.{kinds_below_none}
use Rattle.nested_paths.proofs.Levels.{have_levels}
use Rattle.nested_paths.proofs.Seen.{paths_are_seen}
use Rattle.nested_paths.proofs.Walks.{below_none}
use Rattle.nested_paths.proofs.paths.to_nested.Goals as goal

pub returns-clause-ok : goal.returns-clause-ok
returns-clause-ok c =
    let all : List (List Part) = paths (boxed c.args.array.now) (tree_view c.args.type_.now) in
    c.in_ok-push_paths.ensures.taken.0 ∙ rw c.new-found.ensures.items (below_none all)

pub returns-clause-seen : goal.returns-clause-seen
returns-clause-seen c =
    let a = boxed c.args.array.now in
    let node = tree_view c.args.type_.now in
    subst (λ found. AreSeen (slots (read_by a node)) (ways (shape_by a node)) found (array_leaves a)) (sym (returns-clause-ok c)) (paths_are_seen a node c.know.ensures c.in_ok-push_paths.ensures.taken.1)

pub returns-clause-levels : goal.returns-clause-levels
returns-clause-levels c =
    ap (map path_levels) (returns-clause-ok c) ∙ have_levels (boxed c.args.array.now) (tree_view c.args.type_.now) c.in_ok-push_paths.ensures.taken.1

pub returns-clause-kinds : goal.returns-clause-kinds
returns-clause-kinds c = c.in_ok-push_paths.ensures.kinds ∙ rw c.new-found.ensures.items (kinds_below_none (kinds (boxed c.args.array.now)))
