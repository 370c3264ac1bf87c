pub mod CutPath
pub mod Laws
pub mod Examples
pub use Rattle.shredding.specs.Slot
pub use Rattle.shredding.specs.Parts
pub use Rattle.levels.specs.InBounds
