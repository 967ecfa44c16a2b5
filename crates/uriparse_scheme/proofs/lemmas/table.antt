pub mod SortedLemmas
pub mod TableLemmas
