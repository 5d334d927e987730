pub mod Askings
pub mod Runs
mod Tables
mod Walks
