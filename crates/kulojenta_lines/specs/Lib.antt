pub mod Input
pub mod Json
pub mod Kinds
