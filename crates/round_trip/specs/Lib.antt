-- Print and load, there and back (document 02, Req 01). Definitions: RoundTrip, the same set and a text that passes each check. Theorems: PrintLoad that a print is taken again and gives the same set, and that the same bytes;
-- PrintFits that a set from text prints in no more bytes than a text may have; PrintOfText what a text prints; LinePrints that every token of a line without a fault can be written and read back. The files named ..Laws hold
-- what these need.
pub mod RoundTrip
pub mod LinePrints
pub mod MarkLaws
pub mod FrontLaws
pub mod SetTreesLaws
pub mod PrintedLinesLaws
pub mod LoadedRowsLaws
pub mod PrintFits
pub mod PrintTakenLaws
pub mod CurveSlotsLaws
pub mod PrintLoad
pub mod PrintOfText
mod RoundTripTable
