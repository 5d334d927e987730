pub mod CCharLemmas
pub mod DigitLemmas
pub mod DigitRuns
pub mod FloatingReads
pub mod IntegerReads
pub mod StringLemmas
mod Wrapping
