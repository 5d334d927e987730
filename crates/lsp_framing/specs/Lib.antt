pub mod Lines
pub mod Scanned
pub mod Frames
pub mod Standing
pub mod Known
pub mod Kinds
