pub mod Forms
pub mod Generics
pub mod Paths
pub mod Tokens
pub mod Types
