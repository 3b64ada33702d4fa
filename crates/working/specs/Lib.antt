-- What the promises mean: where the variables lie and what they read, what the operators make of two values, what a line's expressions are worth. VariableLaws has what follows from where variables lie.
pub mod Variables
pub mod VariableLaws
pub mod Pair
pub mod Operators
pub mod Working
