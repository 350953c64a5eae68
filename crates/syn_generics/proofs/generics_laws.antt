pub mod FrontLaws
pub mod Prints
pub mod Views
pub mod WholeLaws
pub mod complete
pub mod reprint
pub mod sound
pub mod words
