pub mod schemes
pub mod table
