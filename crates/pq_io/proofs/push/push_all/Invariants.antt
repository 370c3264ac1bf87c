use Rattle.std.proofs.Common.{length, take, ◌-◌, ◌≤◌}
use Rattle.std.specs.Io.KnownBytes.{Appends}
use Rattle.pq_io.proofs.push.push_all.Given as goal

abbrev pub invariant-pushing : goal.invariant-pushing
invariant-pushing g l = record {
  within : l.pushed ≤ length l.bytes;
  appended : Appends (g.K.Sink.taken l.fn.sink) (g.K.Sink.taken l.sink) (take l.pushed l.bytes);
  later : g.K.Sink.faults l.fn.sink ≤ g.K.Sink.faults l.sink;
  wants_later : g.K.Sink.wants l.fn.sink ≤ g.K.Sink.wants l.sink;
}

abbrev pub decreases-pushing : goal.decreases-pushing
decreases-pushing g l = length l.bytes - l.pushed
