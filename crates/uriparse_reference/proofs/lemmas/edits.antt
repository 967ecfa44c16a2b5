pub mod PathRuleLemmas
pub mod EditLemmas
pub mod EditListLemmas
pub mod SegmentLemmas
pub mod PortLemmas
pub mod ChangeLemmas
pub mod PairEditLemmas
pub mod BesideLemmas
