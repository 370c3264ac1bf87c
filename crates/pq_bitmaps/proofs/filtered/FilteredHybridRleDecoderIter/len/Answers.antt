use Rattle.std.proofs.Common.{◌+◌, ◌-◌, arith}
use Rattle.pq_bitmaps.specs.Filter.{room}
use Rattle.pq_bitmaps.proofs.Filters.{selected_within}
use Rattle.pq_bitmaps.proofs.filtered.FilteredHybridRleDecoderIter.len.Goals as goal

pub selected_in-requires : goal.selected_in-requires
selected_in-requires c =
    let f = c.self.inside.filter in
    let within = selected_within f.place (f.place + (room f - (f.skip + f.count))) f.intervals.items c.self.invariant.ascend in
    omega (arith, within, c.self.invariant.fits, c.self.invariant.counted)
