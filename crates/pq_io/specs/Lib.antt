pub mod Causes
pub mod Ends
pub mod MemorySinks
pub mod MemorySources
pub mod PieceSinks
pub mod PlainSinks
pub mod PlainSources
pub mod Reading
