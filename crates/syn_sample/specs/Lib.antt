pub mod sample
