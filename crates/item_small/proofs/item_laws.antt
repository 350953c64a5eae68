pub mod Bodies
pub mod Ends
pub mod Fields
pub mod Items
pub mod Single
