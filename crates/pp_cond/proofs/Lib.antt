pub mod Tables
pub mod Pieces
pub mod FrameLemmas
pub mod Reading
pub mod Finding
pub mod Answering
