pub mod Both
pub mod Same
pub mod Lists
pub mod Groups
pub mod Options
