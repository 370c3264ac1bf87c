use Rattle.std.proofs.Common.{◌<◌, sym, arith}
use Rattle.std.specs.Prelude.{count_ones}
use Rattle.std.proofs.lemmas.List.Elements.{All-from_recursion}
use Rattle.write_places.specs.Places.{picked}
use Rattle.write_places.proofs.Picked.{each_picked, length_picked}
use Rattle.write_values.proofs.TruthPlaces.{counts_more}
use Rattle.write_values.proofs.truths.CountsTruthsTaker.take_some.Goals as goal

pub returns-clause-taken : goal.returns-clause-taken
returns-clause-taken c = λ first places h.
    let limit = first.places in
    let new = picked c.args.bits c.args.from c.args.count in
    (h.0, counts_more limit places new first.count c.args.self.now.count c.plus-self.result (count_ones c.args.bits) h.1 c.plus-self.ensures (sym (length_picked c.args.bits c.args.from c.args.count c.requires.low)) (All-from_recursion (λ i. i < limit) new (each_picked limit c.args.bits c.args.from c.args.count (omega (arith, h.0, c.requires.within)))))
