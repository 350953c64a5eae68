-- Laws of tokens that are held as they were written.
pub mod Reached
