-- Proofs that the plain codec keeps its law. They define nothing that a contract cites.
pub mod Formats
pub mod Parts
pub mod Tagged
pub mod Types
pub mod Whole
