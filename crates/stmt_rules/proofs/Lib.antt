pub mod ApartLemmas
pub mod TopLemmas
