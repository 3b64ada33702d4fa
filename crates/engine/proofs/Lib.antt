-- Laws that several proofs cite, each file beside the definitions it is about. Set and state: SetLaws, SoundTestLaws. The host's calls: CallLaws.
-- Actions: ActionLaws, AssignedLaws, ActionsLaws. Turns: TurnLaws. The beat: CellLaws, BeatLaws.
pub mod SetLaws
mod SoundTestLaws
mod CallLaws
mod ActionLaws
mod AssignedLaws
mod ActionsLaws
mod TurnLaws
mod CellLaws
mod BeatLaws
