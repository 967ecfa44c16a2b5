pub mod reading
pub mod equality
pub mod edits
pub mod normalizing
pub mod resolving
pub mod writing
