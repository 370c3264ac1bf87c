use Rattle.std.proofs.Common.{◌+◌, ◌-◌, List, take, subst, arith}
use Rattle.shredding.specs.Slot.{Value, number}
use Rattle.pq_tree.specs.Views.{physical_view}
use Rattle.write_values.specs.Rows.{AppendsRow}
use Rattle.write_values.proofs.NumberRuns.{first_values}
use Rattle.write_values.proofs.numbers.put_run.Goals as goal

pub returns-then-has_eight-clause-are : goal.returns-then-has_eight-clause-are
returns-then-has_eight-clause-are g c =
    let f : g.row.T.Denot → Value = λ x. number (g.T.StoredAs.stored_number x) in
    let r = c.put_first in
    subst (λ (vs : List Value). AppendsRow (physical_view g.P.ParquetNativeType.physical) (take c.args.at c.args.places.now) (take r.result r.new.places) vs) (first_values f c.args.values.now c.args.from c.args.few (c.args.from + 8 - c.args.from) (omega (arith, c.requires.few)) c.requires.within) r.ensures.are

pub returns-then-values-from-lt8-clause-are : goal.returns-then-values-from-lt8-clause-are
returns-then-values-from-lt8-clause-are g c =
    let f : g.row.T.Denot → Value = λ x. number (g.T.StoredAs.stored_number x) in
    subst (λ (vs : List Value). AppendsRow (physical_view g.P.ParquetNativeType.physical) (take c.args.at c.args.places.now) (take c.put_first-then-values-from-lt8.result c.put_first-then-values-from-lt8.new.places) vs) (first_values f c.args.values.now c.args.from c.args.few (c.args.from + c.args.few - c.args.from) (omega arith) c.requires.within) c.put_first-then-values-from-lt8.ensures.are

pub returns-else-values-from-lt8-clause-are : goal.returns-else-values-from-lt8-clause-are
returns-else-values-from-lt8-clause-are g c =
    let f : g.row.T.Denot → Value = λ x. number (g.T.StoredAs.stored_number x) in
    let r = c.put_first-else-values-from-lt8 in
    subst (λ (vs : List Value). AppendsRow (physical_view g.P.ParquetNativeType.physical) (take c.args.at c.args.places.now) (take r.result r.new.places) vs) (first_values f c.args.values.now c.args.from c.args.few (c.args.from + 8 - c.args.from) (omega (arith, c.requires.few)) c.requires.within) r.ensures.are
