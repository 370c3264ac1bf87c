-- Proofs that the codec keeps its law. They define nothing that a contract cites.
pub mod Bases
pub mod Children
pub mod Entries
pub mod Fields
pub mod Keyed
pub mod Leaves
pub mod Slots
pub mod Standing
pub mod Types
pub mod Whole
