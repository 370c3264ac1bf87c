pub mod Digits
pub mod Orders
pub mod Steps
pub mod Texts
pub mod Forms
