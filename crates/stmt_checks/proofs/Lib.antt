mod Alike
mod Bare
mod Bodies
mod Firm
mod Folds
mod Headings
mod Taking
mod Lacking
pub mod Moving
mod Noting
mod Owned
mod Stays
mod TakenOver
