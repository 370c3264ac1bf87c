pub mod Columns
pub mod Fields
pub mod Parts
pub mod Present
pub mod Rows
pub mod Totals
pub mod Worked
