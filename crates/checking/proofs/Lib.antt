-- Laws that several proofs cite.
mod SightNumberLaws
mod BracketCountLaws
mod LevelLaws
mod MoveLaws
mod SumLaws
mod FaultLaws
mod DefinitionLaws
mod SignLaws
