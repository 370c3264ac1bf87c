-- What the sinks in memory have taken, and at which calls they fail.
use Rattle.std.specs.Prelude.{◌≡◌, List, ℕ, Result, Ok, Err, Contains}
use Rattle.pq_io.specs.Causes.{raised}
use Rattle.pq_io.specs.declared.memory_sink.MemorySink.{MemorySink}
use Rattle.pq_io.specs.declared.sink.SinkFault.{SinkFault}
use Rattle.pq_io.specs.declared.sink.SinkFault.TheVariants.{Failed, Memory}

abbrev pub memory_taken : MemorySink → List ℕ
memory_taken sink = sink.bytes.items

-- It was not called so far, and has counted neither a fault nor a want of memory.
pub record IsUnused (sink : MemorySink) : Type 0 where
  pub calls : sink.calls ≡ 0
  pub faults : sink.faults ≡ 0
  pub wants : sink.wants ≡ 0

-- The next call is one of the list. Calls are numbered from 1.
abbrev pub IsToFail : MemorySink → Type 0
IsToFail sink = Contains sink.failing.items (raised sink.calls)

-- A call counts itself, and leaves the list and the limit as they were.
pub record IsCalled (old new : MemorySink) : Type 0 where
  pub calls : new.calls ≡ raised old.calls
  pub failing : new.failing.items ≡ old.failing.items
  pub limit : new.limit ≡ old.limit

-- A fault counts one of its kind, and nothing else counts.
abbrev pub IsCounted : MemorySink → MemorySink → Result ℕ SinkFault → Type 0
IsCounted old new (Ok n) = (new.faults ≡ old.faults) × (new.wants ≡ old.wants)
IsCounted old new (Err Failed) = (new.faults ≡ raised old.faults) × (new.wants ≡ old.wants)
IsCounted old new (Err Memory) = (new.faults ≡ old.faults) × (new.wants ≡ raised old.wants)
