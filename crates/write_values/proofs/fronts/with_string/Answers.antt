use Rattle.std.proofs.Common.{arith}
use Rattle.columns_slots.specs.Bytes.{pieces_values}
use Rattle.page_statistics.proofs.Further.{greatest_kept, least_kept, place_further}
use Rattle.write_values.specs.Numbers.{at_place}
use Rattle.write_values.proofs.FirstBytes.{fronts_up}
use Rattle.write_values.proofs.fronts.with_string.Goals as goal

pub returns-then-lies_between-clause-are : goal.returns-then-lies_between-clause-are
returns-then-lies_between-clause-are g c =
    let value = at_place (pieces_values c.args.offsets.now c.args.all.now) in
    let f = c.args.fronts in
    place_further value f.least.place f.greatest.place _ _ c.args.place
    (least_kept value f.least.place c.args.place (fronts_up f.least.front c.front_at-front.result _ _ c.requires.before.least.is c.front_at-front.ensures (omega (arith, (c.lies_between.ensures c.if-lies_between.true).0))))
    (greatest_kept value f.greatest.place c.args.place (fronts_up c.front_at-front.result f.greatest.front _ _ c.front_at-front.ensures c.requires.before.greatest.is (omega (arith, (c.lies_between.ensures c.if-lies_between.true).1))))
