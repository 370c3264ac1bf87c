-- What a source in memory that can fail has left, and at which calls it fails.
use Rattle.std.specs.Prelude.{◌≡◌, List, ℕ, drop, Contains}
use Rattle.pq_io.specs.Causes.{raised}
use Rattle.pq_io.specs.declared.memory_source.MemorySource.{MemorySource}

abbrev pub memory_left : MemorySource → List ℕ
memory_left source = drop source.at source.bytes.items

-- It was not called so far, and has counted no fault.
pub record IsUnused (source : MemorySource) : Type 0 where
  pub calls : source.calls ≡ 0
  pub faults : source.faults ≡ 0

-- The next call is one of the list. Calls are numbered from 1.
abbrev pub IsToFail : MemorySource → Type 0
IsToFail source = Contains source.failing.items (raised source.calls)

-- A call counts itself, and leaves the list as it was.
pub record IsCalled (old new : MemorySource) : Type 0 where
  pub calls : new.calls ≡ raised old.calls
  pub failing : new.failing.items ≡ old.failing.items
