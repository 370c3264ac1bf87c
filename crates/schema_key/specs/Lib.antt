pub mod Examples
pub mod Inferred
pub mod Key
pub mod Laws
pub use Rattle.columns_core.specs.Meta
pub use Rattle.columns_core.specs.View
pub use Rattle.schema_codec.specs.Ranges
