pub mod BitLemmas
pub mod LaneLemmas
pub mod PairLemmas
pub mod PairMarkLemmas
pub mod MarkLemmas
pub mod ScanLemmas
pub mod NeighbourLemmas
