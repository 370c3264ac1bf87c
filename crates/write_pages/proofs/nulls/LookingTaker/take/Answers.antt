use Rattle.std.proofs.Common.{◌-◌, arith}
use Rattle.write_places.specs.Places.{range}
use Rattle.write_values.proofs.InRows.{each-range, length-range}
use Rattle.write_pages.proofs.Looked.{looks_more, some_there}
use Rattle.write_pages.proofs.nulls.LookingTaker.take.Goals as goal

pub returns-clause-taken : goal.returns-clause-taken
returns-clause-taken c = λ first places h.
    let n = c.args.to - c.args.from in
    let limit = first.places in
    (h.0, looks_more limit places (range c.args.from n) first.is_some c.args.self.now.is_some _ h.1 (some_there c.args.self.now.is_some (range c.args.from n) (omega (arith, length-range c.args.from n, c.requires.some))) (each-range limit c.args.from n (omega (arith, h.0, c.requires.within, c.requires.some))))
