use Rattle.std.proofs.Common.{◌≡◌, ◌<◌, length, flat_map, ap, subst, arith}
use Rattle.columns_slots.specs.Slots.{slots}
use Rattle.assembly.proofs.Given.{given, gives}
use Rattle.assembly.specs.Giving.{FieldReading}
use Rattle.assembly.specs.Lanes.{AreBehind, lanes_of}
use Rattle.assembly.proofs.Items.{all_behind}
use Rattle.assembly.proofs.Reasons.{refused}
use Rattle.assembly.proofs.Wholes.{assembled}
use Rattle.assembly.proofs.array_iter.ArrayIter.next.Goals as goal
use Rattle.assembly.proofs.array_iter.ArrayIter.next.Goals.{in-Ok, in-Err}

pub returns : goal.returns
returns g c = λ o arrays r.
    let h = given o arrays _ (rw (← c.self.view_is) at r) in
    let count : length (flat_map slots arrays) ≡ o.rows = omega (arith, h.left) in
    let behind : AreBehind 0 o.rows o.rows (lanes_of o) h.tables = subst (λ m. AreBehind 0 m o.rows (lanes_of o) h.tables) count (all_behind o h.tables arrays h.made) in
    elim c.match-expect_ends.branch [
      | in-Ok w ↦ rw w.result-is (assembled o h.tables arrays h.opened h.made count (w.in-Ok.ensures.ok o.rows (lanes_of o) h.tables h.reading behind))
      | in-Err w ↦ rw w.result-is (refused o h.opened w.in-Err.error (w.in-Err.ensures.err o.rows (lanes_of o) h.tables h.reading behind))
    ]

pub returns-then-self-gt0 : goal.returns-then-self-gt0
returns-then-self-gt0 g c = λ o arrays h.
    let some : 0 < c.args.self.now.left = omega (arith, ap (λ (v : FieldReading). v.left) c.self.view_is) in
    gives o arrays c.next_array.result c.next_array.new.self (c.next_array.ensures.ok o arrays h some) (c.next_array.ensures.err o arrays h some)
