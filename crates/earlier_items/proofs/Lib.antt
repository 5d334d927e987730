pub mod Noted
pub mod Inserted
pub mod Added
pub mod Asking
pub mod Entities
pub mod Differing
pub mod Tagging
