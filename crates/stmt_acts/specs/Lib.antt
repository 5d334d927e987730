pub mod Acts
pub mod Bodies
pub mod Shown
pub mod Sizes
pub mod Withins
pub mod Works
