pub mod FutureLemmas
pub mod HostLemmas
pub mod WithinLawLemmas
pub mod NameWithinLemmas
pub mod EndDotLemmas
pub mod WithinLemmas
pub mod PublicLemmas
