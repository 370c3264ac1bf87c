use Rattle.std.proofs.Common.{◌≤◌, ◌+◌, ◌∙◌, List, length, map, ap, subst, arith}
use Rattle.std.specs.Prelude.{OnOk}
use Rattle.std.proofs.lemmas.List.{length-map}
use Rattle.shredding.specs.Slot.{Value, number}
use Rattle.columns_core.specs.Shapes.{base}
use Rattle.columns_slots.specs.Tree.{leaf_array}
use Rattle.pq_tree.specs.Views.{physical_view}
use Rattle.write_places.specs.Places.{picked}
use Rattle.write_values.specs.Numbers.{at_place}
use Rattle.write_values.specs.Rows.{AppendsRow}
use Rattle.write_values.specs.Stored.{stored_at}
use Rattle.write_values.proofs.NumberPlaces.{number_stored, map-alike}
use Rattle.write_values.proofs.numbers.NumbersLeafValues.push_some.Goals as goal

pub push_picked-requires-clause-within : goal.push_picked-requires-clause-within
push_picked-requires-clause-within g c =
    let a = c.args.self.now.array.now in
    let v : g.row.T.Denot → Value = g.T.NativeType.value (base a.0) in
    let high : c.args.from + c.args.places ≤ length a.1.0 = omega (arith, c.requires.within, length-map a.1.0 v) in
    rw c.values.ensures high

pub returns-clause-ok : goal.returns-clause-ok
returns-clause-ok g c =
    let a = c.args.self.now.array.now in
    let p = physical_view g.P.ParquetNativeType.physical in
    let f : g.row.T.Denot → Value = λ x. number (g.T.StoredAs.stored_number x) in
    let v : g.row.T.Denot → Value = g.T.NativeType.value (base a.0) in
    let ps = picked c.args.bits c.args.from c.args.places in
    let same =
    ap (λ (xs : List g.row.T.Denot). map (at_place (map f xs)) ps) c.values.ensures
    ∙ map-alike (at_place (map f a.1.0)) (stored_at (leaf_array a.0 (map v a.1.0) a.1.1) p) (number_stored a.0 p f v a.1.0 a.1.1 g.met.P.StoredNumber.is_number_type (λ x. g.met.T.StoredAs.by_the_table (base a.0) x (g.met.T.AlwaysStored.always x) c.know.ensures.typed c.args.self.now.ordered)) ps in
    subst (λ (vs : List Value). OnOk c.push_picked.result (AppendsRow p c.args.out.now.items c.push_picked.new.out.items vs)) same c.push_picked.ensures.ok
