pub mod Messages
pub mod Printed
