pub mod Named
pub mod Parts
pub mod Paths
pub mod Uris
