-- Loading: Load is what it answers, in document 01's words, over the trees of grammar and over Row, the lines that are taken and the set that holds them; LoadTable computes document 01's
-- examples. Draft is what the private functions keep while they read. The files named ..Laws follow from these: CheckedLaws that the check of a line's tokens comes to what its tree has (over StandLaws),
-- RisingLaws on lines by rising number, KeptLaws on what is kept line by line, RoomLaws on the room that it takes.
pub mod Row
pub mod Load
pub mod Draft
pub mod StandLaws
pub mod CheckedLaws
mod LoadTable
pub mod RisingLaws
pub mod KeptLaws
pub mod RoomLaws
