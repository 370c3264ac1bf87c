use Rattle.std.proofs.Common.{sym, subst, Bool, true, Some}
use Rattle.shredding.specs.Shape.{LeafType}
use Rattle.columns_core.specs.Shapes.{leaf_type}
use Rattle.columns_slots.specs.Slots.{type_of}
use Rattle.pq_tree.specs.Views.{statistics_view}
use Rattle.page_statistics.specs.Stated.{AreStated}
use Rattle.write_values.specs.Decimals.{HasWide}
use Rattle.write_values.specs.Leaf.{leaf_tree, leaf_physical}
use Rattle.write_values.specs.Pages.{value_column}
use Rattle.write_values.proofs.ServedTypes.{leaf_base}
use Rattle.write_values.proofs.statistics.leaf_statistics.Goals as goal

pub returns-clause-ok : goal.returns-clause-ok
returns-clause-ok c =
    let a = leaf_tree c.args.leaf in
    let p = leaf_physical c.args.leaf in
    let stated = Some (statistics_view c.in_ok-statistics.statistics) in
    subst (λ (b : Bool). AreStated b (leaf_type (type_of a)) p (value_column a c.args.nested.now) stated) (sym c.if-not-is_wanted.false)
    (subst (λ (l : LeafType). AreStated true l p (value_column a c.args.nested.now) stated) (leaf_base (type_of a)) c.in_ok-statistics.ensures.ok)

pub all_statistics-requires-clause-held : goal.all_statistics-requires-clause-held
all_statistics-requires-clause-held c =
    let a = leaf_tree c.args.leaf in
    subst (λ (l : LeafType). ¬ HasWide l (leaf_physical c.args.leaf) (value_column a c.args.nested.now)) (sym (leaf_base (type_of a))) c.requires.held
