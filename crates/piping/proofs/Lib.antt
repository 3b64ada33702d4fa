-- ProgramLaws: how much a step takes and writes.
pub mod ProgramLaws
