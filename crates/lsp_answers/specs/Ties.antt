-- What ties the code to the definitions.
pub mod Forms
pub mod Around
pub mod Growing
