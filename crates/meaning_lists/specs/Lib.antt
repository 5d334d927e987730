pub mod Bindings
pub mod Entities
pub mod Firsts
pub mod Found
pub mod Filling
pub mod Names
pub mod Order
