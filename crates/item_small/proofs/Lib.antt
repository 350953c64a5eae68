pub mod front_laws
pub mod item_laws
pub mod part_laws
