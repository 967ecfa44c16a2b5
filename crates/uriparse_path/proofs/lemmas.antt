pub mod text
pub mod reading
pub mod dots
pub mod normal
pub mod merge
pub mod list
pub mod left
