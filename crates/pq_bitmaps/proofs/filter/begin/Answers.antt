use Rattle.std.proofs.Common.{arith}
use Rattle.pq_bitmaps.specs.Filter.{room}
use Rattle.pq_bitmaps.proofs.Filters.{begin_ascends, begin_fits}
use Rattle.pq_bitmaps.proofs.filter.begin.Goals as goal

pub overflow_add-filter : goal.overflow_add-filter
overflow_add-filter c = omega (arith, c.requires.bounded, begin_fits c.args.filter.now.place c.args.interval.start c.args.interval.length (room c.args.filter.now) c.args.filter.now.intervals.items c.requires.ascend)

pub returns-clause-is : goal.returns-clause-is
returns-clause-is c =
    let fits = begin_fits c.args.filter.now.place c.args.interval.start c.args.interval.length (room c.args.filter.now) c.args.filter.now.intervals.items c.requires.ascend in
    record {
      rest = c.requires.rest;
      fits = omega (arith, fits, c.requires.ascend.0);
      ascend = begin_ascends c.args.filter.now.place c.args.interval.start c.args.interval.length (room c.args.filter.now) c.args.filter.now.intervals.items c.requires.ascend;
      bounded = omega (arith, fits, c.requires.ascend.0, c.requires.bounded);
      counted = c.requires.counted;
    }
