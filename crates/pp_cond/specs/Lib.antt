pub mod Marks
pub mod Numbers
pub mod Grammar
pub mod Symbols
pub mod Defined
pub mod Frames
pub mod Machine
pub mod Conditions
