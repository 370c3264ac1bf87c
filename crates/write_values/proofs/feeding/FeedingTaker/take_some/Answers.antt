use Rattle.std.proofs.Common.{map}
use Rattle.write_places.specs.Places.{picked}
use Rattle.write_values.specs.Feeding.{FeedsRow}
use Rattle.write_values.proofs.Fed.{fed_places}
use Rattle.write_values.proofs.feeding.FeedingTaker.take_some.Goals as goal

pub returns-clause-taken : goal.returns-clause-taken
returns-clause-taken g c = λ first places h.
    let w = g.D.DeltaValues.width in
    let p = g.D.DeltaValues.physical in
    let f = g.D.DeltaValues.at first.values.now in
    let new = picked c.args.bits c.args.from c.args.count in
    let here : FeedsRow w p c.args.self.now.out.items c.args.self.now.encoder c.push_picked.new.out.items c.push_picked.new.encoder (map f new) = rw (← h.0) c.in_ok-push_picked.ensures in
    (h.0, fed_places w p f places new _ _ _ _ _ _ h.1 here)
