pub mod Forms
pub mod Paths
pub mod Tokens
pub mod Types
