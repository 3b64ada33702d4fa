-- The grammar of a line. Tree, Meaning, TreeFault, TreeNames, TreeOf and NumbersTo are the definitions; the definition of loading (Load of reader) stands on Tree, TreeFault, TreeNames and TreeOf. That writing and
-- reading agree is shown in Agreement.., ClosedTokens, LineByTree and DefinitionByTree, that TreeOf finds just the line which is written in TreeOfLaws; the other files named ..Laws hold what these need, NumbersToLaws what holds of a
-- line with other numbers; OneMove has the theorems of Req 08 of document 02; LineTable, DefinitionTable and MoveTable compute worked lines of the documents.
pub mod Tree
pub mod Meaning
pub mod TreeNames
pub mod TreeFault
pub mod TreeOf
pub mod AgreementLaws
pub mod Agreement
pub mod AgreementRead
pub mod TreeFaultLaws
pub mod OneMove
pub mod AgreementFault
pub mod ClosedTokens
pub mod AgreementEnds
pub mod AgreementLine
pub mod StandsLaws
pub mod LineByTree
pub mod AgreementDefinition
pub mod DefinitionByTree
pub mod TreeOfLaws
pub mod LineTable
pub mod DefinitionTable
pub mod MoveTable
pub mod NumbersTo
pub mod NumbersToLaws
