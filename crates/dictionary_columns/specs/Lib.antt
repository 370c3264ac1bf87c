pub mod Keys
pub mod Sources
pub mod Lending
pub mod Columns
pub mod Laws
