pub mod GrammarLemmas
pub mod SchemeLemmas
pub mod NormalLemmas
pub mod CutLemmas
