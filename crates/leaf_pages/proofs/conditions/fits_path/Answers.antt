use Rattle.columns_array.specs.Boxed.{boxed}
use Rattle.levels.specs.Nested.{parts_of}
use Rattle.leaf_pages.proofs.OfLeaf.{fits_above, fits_beneath}
use Rattle.leaf_pages.proofs.conditions.fits_path.Goals as goal
use Rattle.std.proofs.Common.{rules, ◌≡◌}
use Rattle.nested_paths.specs.Nodes.{is_optional}
use Rattle.nested_paths.specs.PathLeaf.{is_leaf_optional}
use Rattle.pq_tree.specs.TreeViews.{leaf_view}

pub returns : goal.returns
returns c =
    let a = boxed c.args.array.now in
    let parts = parts_of c.args.nested.now in
    let leaf = parts_of c.leaf_alone.result.now in
    let same : is_optional (leaf_view c.args.type_.now) ≡ is_leaf_optional parts = search rules in (
      λ h. (same, fits_above a parts leaf c.leaf_alone.ensures.leaf (c.fits_leaf.ensures.0 h)),
      λ f. c.fits_leaf.ensures.1 (fits_beneath a parts leaf c.leaf_alone.ensures.leaf f.1),
    )
