pub mod Items
pub mod Maps
pub mod Sources
pub mod Units
