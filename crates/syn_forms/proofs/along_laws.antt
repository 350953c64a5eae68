pub mod Forms
pub mod Kit
