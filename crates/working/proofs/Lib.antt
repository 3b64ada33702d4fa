-- Laws that several proofs cite: CountLaws on a cell as a count, Joins on the operators, Pairs on what the walk hands on, VariableAtLaws on a variable that is an operand.
mod CountLaws
mod Joins
mod Pairs
mod VariableAtLaws
