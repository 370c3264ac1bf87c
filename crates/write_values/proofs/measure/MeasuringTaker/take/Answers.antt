use Rattle.std.proofs.Common.{◌≡◌, ◌≤◌, ◌-◌, map, arith}
use Rattle.pq_files.specs.Layout.{plain_length}
use Rattle.write_places.specs.Places.{range}
use Rattle.write_values.proofs.InRows.{adds-more}
use Rattle.write_values.proofs.measure.MeasuringTaker.take.Goals as goal

pub returns-clause-taken : goal.returns-clause-taken
returns-clause-taken g c = λ first places h.
    let L = g.L.LeafValues in
    let leaf = first.leaf.now in
    let e : c.plain_size-plain.result ≡ plain_length (L.physical leaf) (map (L.stored leaf) (range c.args.from (c.args.to - c.args.from))) = rw (← h.0) c.plain_size-plain.ensures in
    let high : c.args.to ≤ L.count leaf = rw (← h.0) c.requires.within in
    (h.0, adds-more (L.physical leaf) (L.count leaf) (L.stored leaf) places first.measured c.args.self.now.measured _ c.args.from c.args.to c.plain_size-plain.result (g.met.L.LeafValues.in_a_row leaf) (omega arith) high h.1 e c.saturating_add.ensures c.saturating_add-2.ensures)
