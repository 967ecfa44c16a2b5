pub mod MergedPathLemmas
pub mod ValidTargetLemmas
pub mod ResolveLemmas
pub mod RelativizeLemmas
pub mod RelativeLemmas
pub mod EqualTargetLemmas
pub mod NormalizedTargetLemmas
pub mod CommutationLemmas
