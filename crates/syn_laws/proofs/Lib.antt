pub mod aside_laws
pub mod generics_laws
pub mod normal_laws
pub mod pair_laws
pub mod pat_laws
pub mod ty_laws
