pub mod tokens
pub mod classes
pub mod canonical
pub mod scans
pub mod addresses
pub mod readings
pub mod printing
