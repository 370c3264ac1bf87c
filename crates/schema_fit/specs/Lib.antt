pub mod Examples
pub mod Fits
pub mod PageTable
pub mod Places
pub mod RowExamples
pub mod Skeleton
pub mod Walk
