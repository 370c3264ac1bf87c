mod Holding
mod Unique
mod InARow
