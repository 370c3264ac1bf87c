use Rattle.std.proofs.Common.{length, take, ◌+◌, ◌-◌, ◌≤◌}
use Rattle.std.specs.Io.KnownBytes.{Consumes}
use Rattle.pq_io.proofs.read.read_all.Given as goal

abbrev pub invariant-reading : goal.invariant-reading
invariant-reading g l = record {
  room : l.filled ≤ length l.bytes.items;
  within : length l.bytes.items ≤ l.fn.byte_limit + 1;
  given : Consumes (g.S.Source.left l.fn.source) (g.S.Source.left l.source) (take l.filled l.bytes.items);
  later : g.S.Source.faults l.fn.source ≤ g.S.Source.faults l.source;
}

abbrev pub decreases-reading : goal.decreases-reading
decreases-reading g l = l.fn.byte_limit + 1 - l.filled
