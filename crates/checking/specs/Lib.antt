-- What the promises mean: the faults 4 to 10 and 14 and the parts of a line, and the number that the check hands on. Definitions only; that the reading is document 01's grammar is shown in the crate grammar.
pub mod Fault
pub mod CurveDefinition
pub mod SightNumber
pub mod Brackets
