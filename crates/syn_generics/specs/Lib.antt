pub mod generics
