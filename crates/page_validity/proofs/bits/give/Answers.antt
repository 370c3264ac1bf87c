use Rattle.std.proofs.Common.{map}
use Rattle.pq_bitmaps.specs.Selected.{gives}
use Rattle.pq_bitmaps.specs.Stretch.{stretch_bits}
use Rattle.page_validity.proofs.Given.{cut_steps}
use Rattle.page_validity.proofs.bits.give.Goals as goal

pub returns-clause-says : goal.returns-clause-says
returns-clause-says c = (
  map gives (stretch_bits c.cut.result.0),
  c.given.ensures.says,
  cut_steps (stretch_bits c.args.bits.now.rest) (stretch_bits c.cut.result.0) (stretch_bits c.cut.result.1) c.args.bits.now.runs.bits c.cut.ensures.bits,
)
