-- How the calls for Rust and C answer.
pub mod Packed
