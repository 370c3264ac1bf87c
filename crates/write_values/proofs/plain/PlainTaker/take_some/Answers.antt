use Rattle.std.proofs.Common.{List, map, sym, subst}
use Rattle.std.proofs.lemmas.List.{map-append}
use Rattle.shredding.specs.Slot.{Value}
use Rattle.write_places.specs.Places.{picked}
use Rattle.write_values.specs.Rows.{AppendsRow}
use Rattle.write_values.proofs.InRows.{row-more}
use Rattle.write_values.proofs.plain.PlainTaker.take_some.Goals as goal

pub returns-clause-taken : goal.returns-clause-taken
returns-clause-taken g c = λ first places h.
    let p = g.L.LeafValues.physical first.leaf.now in
    let f = g.L.LeafValues.stored first.leaf.now in
    let new = picked c.args.bits c.args.from c.args.count in
    let here : AppendsRow p c.args.self.now.out.items c.push_some.new.out.items (map f new) = rw (← h.0) c.in_ok-push_some.ensures.ok in
    (h.0, subst (λ (vs : List Value). AppendsRow p first.out.items c.push_some.new.out.items vs) (sym (map-append f places new)) (row-more p first.out.items c.args.self.now.out.items c.push_some.new.out.items (map f places) (map f new) h.1 here))
