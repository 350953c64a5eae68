pub mod Attributes
pub mod Forms
pub mod Paths
pub mod Patterns
pub mod Tokens
pub mod Types
