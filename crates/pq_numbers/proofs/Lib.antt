pub mod Bytes
pub mod Digits
pub mod Examples
pub mod LittleEndianBytes
pub mod Numbers
pub mod Writes
pub mod Signed
