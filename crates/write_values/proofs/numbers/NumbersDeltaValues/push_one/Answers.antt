use Rattle.std.proofs.Common.{◌≡◌, ◌<◌, ◌∙◌, List, length, map, get_or, ap, sym, arith}
use Rattle.std.proofs.lemmas.List.{length-map}
use Rattle.shredding.specs.Slot.{Value, number}
use Rattle.columns_core.specs.Shapes.{base}
use Rattle.columns_slots.specs.Tree.{leaf_array}
use Rattle.pq_runs.proofs.Steps.{finished}
use Rattle.pq_tree.specs.Views.{physical_view}
use Rattle.write_values.specs.Numbers.{at_place}
use Rattle.write_values.specs.Stored.{stored_at}
use Rattle.write_values.proofs.Fed.{feeds_number}
use Rattle.write_values.proofs.NumberPlaces.{number_stored}
use Rattle.write_values.proofs.Picked.{number_here}
use Rattle.write_values.proofs.numbers.NumbersDeltaValues.push_one.Goals as goal

pub returns : goal.returns
returns g c =
    let a = c.args.self.now.array.now in
    let xs = c.args.self.now.values.now in
    let i = c.args.i in
    let p = physical_view g.P.ParquetNativeType.physical in
    let f : g.row.T.Denot → Value = λ x. number (g.T.StoredAs.stored_number x) in
    let v : g.row.T.Denot → Value = g.T.NativeType.value (base a.0) in
    let x = c.index-self-i.result in
    let z = g.P.PlainNumber.plain_number c.to_stored-stored.result in
    let within : i < length xs = rw c.args.self.now.are (omega (arith, c.requires, length-map a.1.0 v)) in
    let here : number (g.T.StoredAs.stored_number x) ≡ at_place (map f xs) i = number_here f xs i x within c.index-self-i.is in
    let stored : at_place (map f a.1.0) i ≡ stored_at (leaf_array a.0 (map v a.1.0) a.1.1) p i = number_stored a.0 p f v a.1.0 a.1.1 g.met.P.StoredNumber.is_number_type (λ y. g.met.T.StoredAs.by_the_table (base a.0) y (g.met.T.AlwaysStored.always y) c.know.ensures.typed c.args.self.now.ordered) i in
    let own : g.T.StoredAs.stored_number (get_or xs i x) ≡ g.T.StoredAs.stored_number x = ap g.T.StoredAs.stored_number (sym c.index-self-i.is) in
    let is : number z ≡ stored_at (leaf_array a.0 (map v a.1.0) a.1.1) p i = ap number (c.to_stored-stored.ensures ∙ own) ∙ (here ∙ (ap (λ (ys : List g.row.T.Denot). at_place (map f ys) i) c.args.self.now.are ∙ stored)) in
    finished c.push_delta.result (λ h. feeds_number g.P.StoredNumber.bit_width p c.args.out.now.items c.args.encoder.now c.push_delta.new.out.items c.push_delta.new.encoder z (stored_at (leaf_array a.0 (map v a.1.0) a.1.1) p i) g.met.P.StoredNumber.is_number_type (sym is) h) c.push_delta.ensures
