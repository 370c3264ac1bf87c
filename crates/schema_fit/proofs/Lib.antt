pub mod Bones
pub mod Rests
pub mod Behind
pub mod Fields
