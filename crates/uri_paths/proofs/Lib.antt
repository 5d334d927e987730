pub mod Split
pub mod Spelled
pub mod Walks
pub mod Roots
pub mod Decoded
pub mod Escapes
pub mod Bytes
pub mod Back
