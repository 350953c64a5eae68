pub mod Alone
pub mod Clauses
pub mod Whole
