-- What ties the code to the definitions beside this folder: none of these says what an expansion is.
pub mod Codes
pub mod Stands
pub mod Joins
pub mod Numbers
pub mod Looks
pub mod Rests
pub mod Parens
pub mod Reading
pub mod Building
pub mod Steps
pub mod Machine
pub mod Keeping
