use Rattle.std.proofs.Common.{List, map, refl, sym, subst}
use Rattle.columns_array.specs.Boxed.{boxed}
use Rattle.nested_paths.specs.Leaves.{array_leaves, node_of}
use Rattle.nested_paths.specs.Paths.{paths}
use Rattle.pq_tree.specs.Tree.{leaves}
use Rattle.pq_tree.specs.TreeViews.{tree_view}
use Rattle.write_pages.specs.Columns.{AreColumns}
use Rattle.write_pages.specs.Holds.{ToGive}
use Rattle.write_groups.specs.Given.{column_of}
use Rattle.write_groups.proofs.Fresh.{given_of, all_fresh}
use Rattle.write_groups.proofs.Short.{paths_short}
use Rattle.write_groups.proofs.group.push_field.Goals as goal

pub array_to_columns-requires : goal.array_to_columns-requires
array_to_columns-requires c = paths_short (boxed c.args.array.now) (tree_view c.args.tree.now) (c.if-not-nests_within.ensures.0 refl)

pub returns-clause-ok : goal.returns-clause-ok
returns-clause-ok c =
    let h = c.in-Ok.ensures in
    let ps = c.in-Ok.pages.items in (
      map column_of ps,
      c.in_ok-push_all-in-Ok.ensures.ok,
      record {
        sound = c.know.ensures;
        fits = h.fits;
        are = subst (λ (gs : List ToGive). AreColumns c.args.options (map node_of (leaves (tree_view c.args.tree.now))) (paths (boxed c.args.array.now) (tree_view c.args.tree.now)) (array_leaves (boxed c.args.array.now)) c.args.encodings.now gs) (sym (given_of ps)) h.columns;
        seen = h.seen;
        fresh = all_fresh ps;
      },
    )
