pub mod IndexLemmas
pub mod LinkedLemmas
pub mod MarkLemmas
pub mod NewestLemmas
pub mod TableLemmas
