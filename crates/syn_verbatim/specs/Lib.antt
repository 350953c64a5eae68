pub mod Held
pub mod Reading
pub mod Spelling
pub mod Likes
pub mod Again
pub mod Laws
pub mod Aside
