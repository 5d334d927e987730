pub mod StackLemmas
pub mod WayLemmas
