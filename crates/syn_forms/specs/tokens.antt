pub mod Choices
pub mod Grammars
pub mod Printing
pub mod Reading
pub mod Spelling
