pub mod Limits
pub mod Texts
pub mod Prior
pub mod Docs
pub mod Edited
pub mod Kept
pub mod Short
