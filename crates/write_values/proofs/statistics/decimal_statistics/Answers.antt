use Rattle.std.proofs.Common.{List, Some, subst, true}
use Rattle.std.specs.Prelude.{IfOk}
use Rattle.shredding.specs.Shred.{Triple}
use Rattle.columns_core.specs.Shapes.{base, leaf_type}
use Rattle.pq_tree.specs.Views.{statistics_view}
use Rattle.page_statistics.specs.Stated.{AreStated}
use Rattle.write_values.specs.Decimals.{form_physical}
use Rattle.write_values.proofs.DecimalPlaces.{held_column}
use Rattle.write_values.proofs.statistics.decimal_statistics.Goals as goal

pub returns-clause-ok : goal.returns-clause-ok
returns-clause-ok c =
    let a = c.args.array.now in
    subst (λ (ts : List Triple). IfOk c.column_statistics.result (λ s. AreStated true (leaf_type (base a.0)) (form_physical c.args.form) ts (Some (statistics_view s)))) (held_column a.0 c.args.form a.1.0 a.1.1 c.args.nested.now c.requires.form c.know.ensures.typed c.requires.held)
    (rw (c.new.ensures.array, c.new.ensures.form) at c.column_statistics.ensures.ok)
