-- What ties the code to the definitions.
pub mod Lists
pub mod Steps
pub mod Walked
