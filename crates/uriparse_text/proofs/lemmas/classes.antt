pub mod FaultLemmas
pub mod ClassLemmas
pub mod FaultByByteLemmas
pub mod OffsetLemmas
pub mod GrammarLemmas
pub mod FaultBeforeMarkLemmas
