pub mod FaultLemmas
pub mod OffsetLemmas
pub mod CountingWalkLemmas
pub mod CuttingWalkLemmas
pub mod ReadingLemmas
pub mod LengthFaultLemmas
pub mod NoEscapeLemmas
