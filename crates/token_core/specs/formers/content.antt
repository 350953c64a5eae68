pub mod Held
pub mod Content
