pub mod Floats
pub mod Frames
pub mod Listing
pub mod Renaming
pub mod Responding
