use Rattle.std.proofs.Common.{arith}
use Rattle.columns_slots.specs.Bytes.{pieces_values}
use Rattle.page_statistics.proofs.Further.{least_kept, least_new}
use Rattle.write_values.specs.Numbers.{at_place}
use Rattle.write_values.proofs.FirstBytes.{fronts_up}
use Rattle.write_values.proofs.fronts.lesser.Goals as goal

pub returns-then-least-new-clause-is : goal.returns-then-least-new-clause-is
returns-then-least-new-clause-is g c = least_kept (at_place (pieces_values c.args.offsets.now c.args.all.now)) c.args.least.place c.args.new.place (fronts_up c.args.least.front c.args.new.front _ _ c.requires.least.is c.requires.new.is (omega (arith, c.if-least-new.true)))

pub returns-then-new-least-clause-is : goal.returns-then-new-least-clause-is
returns-then-new-least-clause-is g c = least_new (at_place (pieces_values c.args.offsets.now c.args.all.now)) c.args.least.place c.args.new.place (fronts_up c.args.new.front c.args.least.front _ _ c.requires.new.is c.requires.least.is (omega (arith, c.if-new-least.true)))

pub returns-then-goes_before-clause-is : goal.returns-then-goes_before-clause-is
returns-then-goes_before-clause-is g c = least_new (at_place (pieces_values c.args.offsets.now c.args.all.now)) c.args.least.place c.args.new.place (c.goes_before.ensures.less c.if-goes_before.true)

pub returns-else-goes_before-clause-is : goal.returns-else-goes_before-clause-is
returns-else-goes_before-clause-is g c = least_kept (at_place (pieces_values c.args.offsets.now c.args.all.now)) c.args.least.place c.args.new.place (c.goes_before.ensures.other c.if-goes_before.false)
