pub mod Fits
pub mod FooterView
pub mod Parts
pub mod Reads
pub mod Room
pub mod Written
