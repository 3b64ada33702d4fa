-- A turn by its tree. TurnTree and LineNames are the definitions; that the engine does so is shown in TurnByTree, SoundTurns, SoundCurves, TurnNumbersTo and TurnCurves; the files named ..Laws hold
-- what these need; TurnTable computes an example.
pub mod TurnTree
pub mod LineNames
pub mod AlarmLaws
pub mod ActionTreeLaws
pub mod NamesLaws
pub mod TurnByTree
pub mod SoundTurns
pub mod SoundCurves
pub mod TurnNumbersTo
pub mod TurnCurves
pub mod TurnTable
