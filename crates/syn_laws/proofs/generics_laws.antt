pub mod Listed
pub mod Normal
pub mod SamePrint
