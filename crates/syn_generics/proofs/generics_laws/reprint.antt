pub mod Clauses
pub mod Generics
pub mod Stripped
pub mod Whole
