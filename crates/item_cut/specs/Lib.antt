pub mod Items
pub mod Kinds
pub mod Labels
pub mod Marks
pub mod Progress
