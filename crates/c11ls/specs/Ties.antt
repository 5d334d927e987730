-- What ties the loops of the code to what serving promises.
pub mod Going
pub mod Turn
