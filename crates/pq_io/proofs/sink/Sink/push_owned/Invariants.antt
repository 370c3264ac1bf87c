use Rattle.std.proofs.Common.{length, take, ◌-◌, ◌≤◌}
use Rattle.std.specs.Io.KnownBytes.{Appends}
use Rattle.pq_io.proofs.sink.Sink.push_owned.Given as goal

abbrev pub invariant-pushing : goal.invariant-pushing
invariant-pushing g l = record {
  within : l.pushed ≤ length l.bytes.items;
  appended : Appends (g.Self.Sink.taken l.fn.self) (g.Self.Sink.taken l.self) (take l.pushed l.bytes.items);
  later : g.Self.Sink.faults l.fn.self ≤ g.Self.Sink.faults l.self;
  wants_later : g.Self.Sink.wants l.fn.self ≤ g.Self.Sink.wants l.self;
}

abbrev pub decreases-pushing : goal.decreases-pushing
decreases-pushing g l = length l.bytes.items - l.pushed
