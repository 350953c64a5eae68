pub mod Attrs
pub mod Generics
pub mod Pats
pub mod Readers
pub mod Types
