pub mod Heads
pub mod Seen
pub mod Stated
pub mod Statements
pub mod Trees
