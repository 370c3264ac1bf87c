use Rattle.std.proofs.Common.{◌≡◌, ◌-◌, ℕ, [], arith, subst}
use Rattle.shredding.specs.Parts.{slot_count}
use Rattle.levels.specs.Nested.{parts_of}
use Rattle.write_places.specs.Places.{gather, slot_places}
use Rattle.write_places.proofs.walk.take_places.Goals as goal

pub returns-clause-taken : goal.returns-clause-taken
returns-clause-taken g c =
    let n : c.slot_count.result - 0 ≡ slot_count (parts_of c.args.nested.now) = omega (arith, c.slot_count.ensures) in
    subst (λ (k : ℕ). g.T.Taker.has c.args.taker.now c.walk.new.taker (gather (slot_places (parts_of c.args.nested.now)) 0 k)) n (c.in_ok-walk.ensures.taken c.args.taker.now [] (g.met.T.Taker.none c.args.taker.now))
