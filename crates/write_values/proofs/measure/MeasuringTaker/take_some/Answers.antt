use Rattle.std.proofs.Common.{◌≡◌, ◌≤◌, ◌+◌, map, sym}
use Rattle.pq_files.specs.Layout.{plain_length}
use Rattle.write_places.specs.Places.{picked}
use Rattle.write_places.proofs.Picked.{each_picked, length_picked}
use Rattle.write_values.proofs.InRows.{adds_list}
use Rattle.write_values.proofs.measure.MeasuringTaker.take_some.Goals as goal

pub returns-clause-taken : goal.returns-clause-taken
returns-clause-taken g c = λ first places h.
    let L = g.L.LeafValues in
    let leaf = first.leaf.now in
    let new = picked c.args.bits c.args.from c.args.count in
    let e : c.some_size-plain.result ≡ plain_length (L.physical leaf) (map (L.stored leaf) new) = rw (← h.0) c.some_size-plain.ensures in
    let high : c.args.from + c.args.count ≤ L.count leaf = rw (← h.0) c.requires.within in
    (h.0, adds_list (L.physical leaf) (L.count leaf) (L.stored leaf) places first.measured c.args.self.now.measured _ new _ c.some_size-plain.result (g.met.L.LeafValues.in_a_row leaf) (each_picked (L.count leaf) c.args.bits c.args.from c.args.count high) (sym (length_picked c.args.bits c.args.from c.args.count c.requires.low)) h.1 e c.saturating_add.ensures c.saturating_add-2.ensures)
