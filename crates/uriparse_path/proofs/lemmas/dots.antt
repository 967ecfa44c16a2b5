pub mod DotSegmentLemmas
pub mod AmbiguousSegmentLemmas
pub mod RewritingStepLemmas
pub mod ReplayLemmas
pub mod ReplayInPlaceLemmas
