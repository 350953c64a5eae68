pub mod Fronts
pub mod Mutability
