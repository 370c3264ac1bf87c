use Rattle.std.proofs.Common.{◌+◌, ◌≤◌, length, take, drop, length-take, refl, subst, sym, arith}
use Rattle.columns_slots.proofs.Cuts.{cut_cut}
use Rattle.columns_leaf.proofs.leaves.PrimitiveArray.slice.Goals as goal

pub returns : goal.returns
returns g c =
    let i = c.self.inside in
    let xs = i.values.value.items in
    let fits : c.args.offset + c.args.length ≤ length (take i.size (drop i.start xs)) = subst (λ t. c.args.offset + c.args.length ≤ length t.1.0) (sym c.self.view_is) c.requires in
    rw (← c.self.view_is, c.cut_validity.ensures, cut_cut xs i.start i.size c.args.offset c.args.length (omega (arith, fits, length-take i.size (drop i.start xs)))) refl
