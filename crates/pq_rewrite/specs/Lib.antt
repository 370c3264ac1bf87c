pub mod Ended
pub mod Run
pub mod Sampled
pub use Rattle.rewrite_notes.specs.Notes
pub use Rattle.rewrite_whole.specs.Answer
pub use Rattle.rewrite_whole.specs.Asks
pub use Rattle.rewrite_whole.specs.Views
