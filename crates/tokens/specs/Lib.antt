-- What the promises mean: tokens and their indices, how tokens are read in any meaning, the faults of single things. Definitions; the files that end in Laws are laws.
pub mod Token
pub mod Index
pub mod Descent
pub mod AnswerLaws
pub mod SingleFault
pub mod ChooseLaws
pub mod BetweenLaws
pub mod IndexLaws
pub mod ArmLaws
pub mod ReadStepLaws
pub mod RowLaws
pub mod BracketLaws
pub mod SingleFaultLaws
