-- The print of a set (document 02, Req 01): TokenText how a token and a line are written, PrintText the print of a set and what the call answers, ReadBack what is read back of a token. Definitions; their laws are in ..Laws.
-- Theorems: LineBack that a line is read back, LineShorter that it takes no more bytes than it was read from, SpaceNeeded that a space is printed just where it is needed.
pub mod TokenText
pub mod PrintText
pub mod PrintOrder
pub mod ReadBack
pub mod NameRows
mod TokenTable
pub mod DecimalLaws
pub mod NumberBackLaws
pub mod TokenBackLaws
pub mod LineBack
pub mod NumberShorterLaws
pub mod ToldLaws
pub mod LineShorter
pub mod OneSignLaws
pub mod TokenBytesLaws
pub mod SpaceNeeded
pub mod PartLaws
pub mod PrintRoomLaws
pub mod NameRowsLaws
pub mod PrintLaws
pub mod PrintOrderLaws
pub mod PrintAnswerLaws
