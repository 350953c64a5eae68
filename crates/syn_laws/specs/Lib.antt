pub mod Normal
pub mod aside
pub mod pair
