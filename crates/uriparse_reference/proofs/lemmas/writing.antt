pub mod EndLemmas
pub mod RelativePathLemmas
pub mod RelativeTextLemmas
pub mod TargetLemmas
pub mod SameTextLemmas
pub mod BackLemmas
pub mod ChangedEndLemmas
