use Rattle.columns_slots.specs.Bytes.{pieces_values}
use Rattle.page_statistics.proofs.Further.{place_further}
use Rattle.write_values.specs.Numbers.{at_place}
use Rattle.write_values.proofs.fronts.with_front.Goals as goal

pub returns-clause-are : goal.returns-clause-are
returns-clause-are g c = place_further (at_place (pieces_values c.args.offsets.now c.args.all.now)) c.args.fronts.least.place c.args.fronts.greatest.place _ _ c.args.new.place c.lesser.ensures.is c.greater.ensures.is
