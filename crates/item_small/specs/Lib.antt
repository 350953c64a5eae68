pub mod item
pub mod part
