pub mod Calls
pub mod Complaint
pub mod Faults
pub mod Items
pub mod Readers
pub mod Run
pub mod Table
pub mod Within
