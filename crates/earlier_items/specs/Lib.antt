pub mod Before
pub mod Differences
