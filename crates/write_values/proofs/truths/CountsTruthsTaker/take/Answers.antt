use Rattle.std.proofs.Common.{◌<◌, ◌-◌, sym, arith}
use Rattle.std.proofs.lemmas.List.Elements.{All-from_recursion}
use Rattle.write_places.specs.Places.{range}
use Rattle.write_values.proofs.InRows.{each-range, length-range}
use Rattle.write_values.proofs.TruthPlaces.{counts_more}
use Rattle.write_values.proofs.truths.CountsTruthsTaker.take.Goals as goal

pub returns-clause-taken : goal.returns-clause-taken
returns-clause-taken c = λ first places h.
    let n = c.args.to - c.args.from in
    let limit = first.places in
    (h.0, counts_more limit places (range c.args.from n) first.count c.args.self.now.count c.plus-self.result n h.1 c.plus-self.ensures (sym (length-range c.args.from n)) (All-from_recursion (λ i. i < limit) (range c.args.from n) (each-range limit c.args.from n (omega (arith, h.0, c.requires.within, c.requires.some)))))
