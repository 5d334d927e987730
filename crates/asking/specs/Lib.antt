pub mod Asking
pub mod InTurn
pub mod Laws
pub mod Lists
pub mod LookUps
pub mod Translations
