pub mod Asked
pub mod Examples
pub mod Laws
pub mod Numbers
pub mod Words
pub mod Sample
