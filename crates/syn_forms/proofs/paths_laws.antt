pub mod Lasts
pub mod Longer
pub mod Words
