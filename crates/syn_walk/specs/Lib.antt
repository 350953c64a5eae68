pub mod Spanned
pub mod walk
