pub mod Lists
pub mod Paths
pub mod Tokens
