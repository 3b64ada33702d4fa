-- In the order in which they are read. Files ending in Answers say how the code holds what a definition gives, files ending in Laws what follows from them.
-- Set and state: Set, State, ActCount, Sound. The host's calls: NamedLine, Calls, Status. Orders and writes: Order, Drive, Write.
-- Actions: Action, Assigned, Actions. Turns: Keyword, Turn. The beat: Timers, Cells, Beat, Held.
pub mod Set
pub mod TableLaws
pub mod SetCountLaws
pub mod SetLinesLaws
pub mod NamesByTreeLaws
pub mod State
pub mod ActCount
pub mod ActCountLaws
pub mod Sound
pub mod NamedLine
pub mod Calls
pub mod ResetLaws
pub mod Status
pub mod CodeAnswers
pub mod Order
pub mod OrderLaws
pub mod Drive
pub mod Write
pub mod WriteAnswers
pub mod Action
pub mod Assigned
pub mod Actions
pub mod ActionAnswers
pub mod Keyword
pub mod Turn
pub mod TurnAnswers
pub mod Timers
pub mod Cells
pub mod Beat
pub mod Held
pub mod HeldLaws
pub mod InputLaws
