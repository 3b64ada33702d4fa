-- A set text as document 01 has it ("Lines of text"): Byte, Number, Lines, Word, First and Tokens; Digits a number in digits. Definitions; their laws are in ..Laws.
pub mod Byte
pub mod Number
pub mod ByteLaws
pub mod NumberLaws
pub mod Digits
pub mod DigitsLaws
pub mod Lines
pub mod LinesLaws
pub mod Word
pub mod WordLaws
pub mod First
pub mod Tokens
pub mod FirstLaws
pub mod TokensLaws
