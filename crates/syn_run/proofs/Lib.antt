pub mod Called
pub mod Consumed
pub mod Whole
pub mod Said
pub mod Bounds
