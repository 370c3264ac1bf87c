use Rattle.std.proofs.Common.{◌∙◌, map, arith}
use Rattle.pq_bitmaps.specs.Selected.{gaps_from, gives}
use Rattle.pq_bitmaps.specs.Stretch.{stretch_bits}
use Rattle.pq_bitmaps.proofs.Filters.{given, size_bits}
use Rattle.pq_bitmaps.proofs.filter.give.Goals as goal

pub returns-clause-says : goal.returns-clause-says
returns-clause-says c =
    let f = c.args.filter.now in
    let n = c.min-count.result in (
      map gives (stretch_bits c.cut.result.0),
      c.given.ensures.says,
      given f.skip f.count n (gaps_from f.place f.intervals.items) (stretch_bits f.rest) (stretch_bits c.cut.result.0) (stretch_bits c.cut.result.1) f.runs.bits c.requires.none c.cut.ensures.bits (size_bits c.cut.result.0 ∙ c.cut.ensures.first.1) (omega (arith, c.min-count.ensures)),
    )
