pub mod Both
pub mod Held
pub mod Paths
pub mod Prints
pub mod Same
pub mod Streams
pub mod Tokens
