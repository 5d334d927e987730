pub mod Readings
pub mod Search
pub mod Seen
pub mod TheReader
