pub mod Listed
pub mod Nodes
pub mod Pairs
pub mod ReadAgain
pub mod ReadFooter
pub mod Rooms
pub mod SameTexts
