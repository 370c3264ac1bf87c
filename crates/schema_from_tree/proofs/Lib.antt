pub mod Names
pub mod One
pub mod Deep
