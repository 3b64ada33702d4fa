-- Handed: the bytes that are handed to load.
pub mod Handed
