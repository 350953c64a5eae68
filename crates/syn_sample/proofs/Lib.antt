pub mod Statements
pub mod Weights
