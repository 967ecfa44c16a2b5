pub mod MergedPathLemmas
pub mod MergedNormalFormLemmas
pub mod LeadingPathLemmas
