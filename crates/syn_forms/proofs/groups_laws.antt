pub mod Complete
pub mod Inside
