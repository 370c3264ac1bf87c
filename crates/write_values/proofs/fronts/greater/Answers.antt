use Rattle.std.proofs.Common.{arith}
use Rattle.columns_slots.specs.Bytes.{pieces_values}
use Rattle.page_statistics.proofs.Further.{greatest_kept, greatest_new}
use Rattle.write_values.specs.Numbers.{at_place}
use Rattle.write_values.proofs.FirstBytes.{fronts_up}
use Rattle.write_values.proofs.fronts.greater.Goals as goal

pub returns-then-new-greatest-clause-is : goal.returns-then-new-greatest-clause-is
returns-then-new-greatest-clause-is g c = greatest_kept (at_place (pieces_values c.args.offsets.now c.args.all.now)) c.args.greatest.place c.args.new.place (fronts_up c.args.new.front c.args.greatest.front _ _ c.requires.new.is c.requires.greatest.is (omega (arith, c.if-new-greatest.true)))

pub returns-then-greatest-new-clause-is : goal.returns-then-greatest-new-clause-is
returns-then-greatest-new-clause-is g c = greatest_new (at_place (pieces_values c.args.offsets.now c.args.all.now)) c.args.greatest.place c.args.new.place (fronts_up c.args.greatest.front c.args.new.front _ _ c.requires.greatest.is c.requires.new.is (omega (arith, c.if-greatest-new.true)))

pub returns-then-goes_before-clause-is : goal.returns-then-goes_before-clause-is
returns-then-goes_before-clause-is g c = greatest_new (at_place (pieces_values c.args.offsets.now c.args.all.now)) c.args.greatest.place c.args.new.place (c.goes_before.ensures.less c.if-goes_before.true)

pub returns-else-goes_before-clause-is : goal.returns-else-goes_before-clause-is
returns-else-goes_before-clause-is g c = greatest_kept (at_place (pieces_values c.args.offsets.now c.args.all.now)) c.args.greatest.place c.args.new.place (c.goes_before.ensures.other c.if-goes_before.false)
