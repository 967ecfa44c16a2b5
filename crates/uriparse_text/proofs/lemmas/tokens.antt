pub mod TokenLemmas
pub mod UnescapedLemmas
pub mod CodingLemmas
pub mod EscapingLemmas
pub mod StartLemmas
pub mod PieceLemmas
pub mod BackLemmas
pub mod AmbiguousLemmas
