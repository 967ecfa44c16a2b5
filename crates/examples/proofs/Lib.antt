pub mod LinkLemmas
pub mod ListLemmas
pub mod PairLemmas
pub mod ProxyLemmas
pub mod RedirectLemmas
pub mod RegistryLemmas
pub mod SchemaStoreLemmas
