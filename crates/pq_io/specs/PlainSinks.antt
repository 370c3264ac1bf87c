-- What the sink in memory that never fails has taken.
use Rattle.std.specs.Prelude.{◌≡◌, List, ℕ, Result, Ok, Err}
use Rattle.pq_io.specs.Causes.{raised}
use Rattle.pq_io.specs.declared.plain_sink.PlainSink.{PlainSink}
use Rattle.pq_io.specs.declared.sink.SinkFault.{SinkFault}
use Rattle.pq_io.specs.declared.sink.SinkFault.TheVariants.{Failed, Memory}

abbrev pub plain_taken : PlainSink → List ℕ
plain_taken sink = sink.bytes.items

-- It never fails, and a want of memory counts one.
abbrev pub WantsAlone : PlainSink → PlainSink → Result ℕ SinkFault → Type 0
WantsAlone old new (Ok n) = new.wants ≡ old.wants
WantsAlone old new (Err Failed) = ⊥
WantsAlone old new (Err Memory) = new.wants ≡ raised old.wants
