use Rattle.std.proofs.Common.{◌∙◌, map, arith, refl}
use Rattle.pq_bitmaps.specs.Selected.{gaps_from, passes}
use Rattle.pq_bitmaps.specs.Stretch.{stretch_bits}
use Rattle.pq_bitmaps.proofs.Filters.{passed, size_bits}
use Rattle.pq_bitmaps.proofs.filter.pass.Goals as goal

pub returns-clause-says : goal.returns-clause-says
returns-clause-says c =
    let f = c.args.filter.now in
    let n = c.min-count.result in
    let size = size_bits c.cut.result.0 ∙ c.cut.ensures.first.1 in (
      map passes (stretch_bits c.cut.result.0),
      (stretch_bits c.cut.result.0, omega (arith, size, c.min-count.ensures, c.len.ensures, c.requires.some, c.requires.rest), refl, c.set_bits.ensures),
      passed f.skip f.count n (gaps_from f.place f.intervals.items) (stretch_bits f.rest) (stretch_bits c.cut.result.0) (stretch_bits c.cut.result.1) f.runs.bits c.cut.ensures.bits size (omega (arith, c.min-count.ensures)),
    )
