pub mod hosts
pub mod authorities
