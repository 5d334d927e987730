pub mod Ends
pub mod Items
pub mod Kept
pub mod Last
pub mod Passed
