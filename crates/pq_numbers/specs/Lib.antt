pub mod Bits
pub mod Examples
pub mod LittleEndian
pub mod Texts
pub mod Varint
pub mod Zigzag
