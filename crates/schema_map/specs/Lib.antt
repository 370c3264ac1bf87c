pub mod Counts
pub mod Examples
pub mod Laws
pub mod Rows
pub mod StoredRows
