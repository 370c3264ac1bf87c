use Rattle.std.proofs.Common.{Bool, ap, sym, arith}
use Rattle.std.specs.Prelude.{◌||◌, count_ones}
use Rattle.write_places.specs.Places.{picked}
use Rattle.write_places.proofs.Picked.{each_picked, length_picked}
use Rattle.write_pages.proofs.Looked.{looks_more, some_counted}
use Rattle.write_pages.proofs.nulls.LookingTaker.take_some.Goals as goal

pub returns-clause-taken : goal.returns-clause-taken
returns-clause-taken c = λ first places h.
    let limit = first.places in
    let new = picked c.args.bits c.args.from c.args.count in
    let counted = some_counted new (count_ones c.args.bits) (sym (length_picked c.args.bits c.args.from c.args.count c.requires.low)) in
    (h.0, looks_more limit places new first.is_some c.args.self.now.is_some _ h.1 (ap (λ (b : Bool). c.args.self.now.is_some || b) counted) (each_picked limit c.args.bits c.args.from c.args.count (omega (arith, h.0, c.requires.within))))
