pub mod NormalizingLemmas
pub mod NormalFormLemmas
