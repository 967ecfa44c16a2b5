pub mod CanonicalComponentLemmas
pub mod EqualityLemmas
pub mod HashLemmas
pub mod OrderLemmas
