pub mod Units
pub mod Lines
pub mod Positions
pub mod Walked
pub mod Starts
pub mod Edits
