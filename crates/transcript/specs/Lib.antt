-- Synrun is all that synrun prints from all that it reads, in document 01's words, with Input, BeatLine, Tally, Totals and Output; SetText, HalfLine and Intake say how the code reads it, Machine how it works and prints that; InPlace and SessionAnswers how the code holds it. Definitions; their laws are in ..Laws.
pub mod BeatLine
pub mod HalfLine
pub mod Output
pub mod OutputLaws
pub mod Totals
pub mod TotalsLaws
pub mod Tally
pub mod Input
pub mod Synrun
pub mod SetText
pub mod StarLaws
pub mod Intake
pub mod IntakeLaws
pub mod Machine
pub mod InPlace
pub mod SessionAnswers
mod OrdersLaws
pub mod SessionRoomLaws
pub mod InPlaceLaws
pub mod BeatTakenLaws
