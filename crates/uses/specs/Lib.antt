pub mod Arrays
pub mod Files
pub mod Schemas
