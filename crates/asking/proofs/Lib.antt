mod InOrder
pub mod InTurn
mod LookUps
mod Translations
