use Rattle.std.proofs.Common.{◌≤◌, ◌-◌, ◌∙◌, List, length, map, take, drop, ap, subst, refl, arith}
use Rattle.std.specs.Prelude.{OnOk}
use Rattle.std.proofs.lemmas.List.{length-map}
use Rattle.shredding.specs.Slot.{Value, number}
use Rattle.columns_core.specs.Shapes.{base}
use Rattle.pq_tree.specs.Views.{physical_view}
use Rattle.write_values.specs.Rows.{AppendsRow}
use Rattle.write_values.proofs.NumberPlaces.{numbers_cut}
use Rattle.write_values.proofs.numbers.NumbersLeafValues.push_plain.Goals as goal

pub returns-clause-ok : goal.returns-clause-ok
returns-clause-ok g c =
    let a = c.args.self.now.array.now in
    let p = physical_view g.P.ParquetNativeType.physical in
    let f : g.row.T.Denot → Value = λ x. number (g.T.StoredAs.stored_number x) in
    let v : g.row.T.Denot → Value = g.T.NativeType.value (base a.0) in
    let high : c.args.to ≤ length a.1.0 = omega (arith, c.requires.within, length-map a.1.0 v) in
    let same =
    ap (λ (xs : List g.row.T.Denot). map f (take (c.args.to - c.args.from) (drop c.args.from xs))) c.values.ensures
    ∙ numbers_cut a.0 p f v a.1.0 a.1.1 c.args.from c.args.to (c.args.to - c.args.from) g.met.P.StoredNumber.is_number_type (λ x. g.met.T.StoredAs.by_the_table (base a.0) x (g.met.T.AlwaysStored.always x) c.know.ensures.typed c.args.self.now.ordered) c.requires.ordered high refl in
    subst (λ (vs : List Value). OnOk c.push_numbers.result (AppendsRow p c.args.out.now.items c.push_numbers.new.out.items vs)) same c.push_numbers.ensures.ok
