pub mod FooterOnce
pub mod Framed
pub mod HeaderOnce
pub mod Injective
pub mod Flat
pub mod FlatOnce
