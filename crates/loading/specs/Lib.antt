-- Loading, whatever the text: LoadAnswers and TextByTrees say what each code means, over the trees of TextTrees, LoadedSound that the set is sound and 22 never arises, LoadedLines that a set which is taken is
-- what the text has (Unmarked: a line without the marks of written points), LoadedCurves and TextCurves that its curves are those of the text's definitions, LoadedTurns and TextTurns that its turns
-- are those of the text's trees. The files named ..Laws hold what these need.
pub mod TextTrees
pub mod Unmarked
pub mod UnmarkedLaws
pub mod PlacedLaws
pub mod StoredLineLaws
pub mod TakenLaws
pub mod ByNumberLaws
pub mod LinesReadLaws
pub mod LoadedLaws
pub mod LoadAnswers
pub mod TextNamesLaws
pub mod TextTreesLaws
pub mod TextLinesLaws
pub mod TextByTrees
pub mod LoadedSound
pub mod LoadedLines
pub mod LoadedCurves
pub mod LoadedTurns
pub mod TextCurvesLaws
pub mod RisingTreesLaws
pub mod TextCurves
pub mod TextTurns
