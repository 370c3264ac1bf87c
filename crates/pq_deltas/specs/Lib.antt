pub mod Encoding
pub use Rattle.pq_runs.specs.Delta
pub use Rattle.pq_runs.specs.DeltaWriting
pub use Rattle.pq_runs.specs.Listed
pub use Rattle.pq_runs.specs.Packing
pub use Rattle.pq_runs.specs.WrittenDelta
pub use Rattle.pq_runs.specs.Writing
