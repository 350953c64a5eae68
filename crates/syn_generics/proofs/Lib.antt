pub mod generics_laws
