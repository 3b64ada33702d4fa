-- Synprint is all that synprint prints from all that it reads; its laws are in SynprintLaws.
pub mod Synprint
pub mod SynprintLaws
