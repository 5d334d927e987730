pub mod Files
pub mod Levels
pub mod Indexed
pub mod Marks
pub mod Places
pub mod Scopes
pub mod Shared
pub mod Occurrences
