pub mod SamePrint
pub mod Stays
