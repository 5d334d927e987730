pub mod Located
pub mod Places
pub mod Renames
pub mod Replies
pub mod Ties
