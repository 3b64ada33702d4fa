-- What the sessions of synrun and synstat come to: HalfLineLaws, a line read byte by byte is the line read by fields; SaidLaws, it says what it says as a whole, PE and RS too; MachineLaws, pieces join; SessionLaws, a session prints what Synrun says; PieceLaws, THE PROMISE, whatever the pieces;
-- EndCountLaws, what END's numbers count; SynstatLaws, what synstat prints beside synrun; SessionUnique, two results that a promise allows are equal. Example and MachineExample are computed.
pub mod HalfLineLaws
pub mod SaidLaws
pub mod MachineLaws
pub mod SessionLaws
pub mod PieceLaws
pub mod EndCountLaws
pub mod SynstatLaws
pub mod SessionUnique
pub mod Example
pub mod MachineExample
