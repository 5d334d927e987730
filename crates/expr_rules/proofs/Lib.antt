pub mod MemberLemmas
pub mod ReachedLemmas
pub mod WalkLemmas
