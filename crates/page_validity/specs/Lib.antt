pub mod Validity
pub mod Bits
pub mod Parts
