pub mod Again
pub mod Last
