pub mod ElementLemmas
pub mod SegmentCountLemmas
pub mod EditLemmas
