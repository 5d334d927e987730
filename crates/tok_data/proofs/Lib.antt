pub mod Equal
pub mod FirstBytes
