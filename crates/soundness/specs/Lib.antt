-- A sound state stays sound, and from a load on 22 never arises: SoundLaws says it of every call (`sound-stays-sound`, `always-sound`, `never-22`); Call has the calls. GoodAnswers tells how the laws go by cases.
-- AnswerCodes and CallCodes: which codes a call answers. BeatOverLines: a beat over lines that were read is the beat of their set.
-- SynfctAssigns: what SYNFCT leaves is what an assignment leaves; Synfct has its words.
pub mod Call
pub mod GoodAnswers
pub mod SetSoundLaws
pub mod CellSoundLaws
pub mod CountSoundLaws
pub mod CallSoundLaws
pub mod ProgramEnd
pub mod ProgramEndLaws
pub mod WriteSoundLaws
pub mod InStepLaws
pub mod WorkSoundLaws
pub mod CurveSoundLaws
pub mod PassLaws
pub mod ActionSoundLaws
pub mod ActedLaws
pub mod LineLaws
pub mod SoundLaws
pub mod AnswerCodes
pub mod VariableCodeLaws
pub mod AnswerCodeLaws
pub mod CallCodes
pub mod BeatOverLines
pub mod Synfct
pub mod SynfctLaws
pub mod SynfctAssigns
