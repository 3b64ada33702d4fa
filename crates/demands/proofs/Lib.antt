-- The theorems of demand 3: Demand3, Consequences, WhatWasDone, Refusals, CountSays, StatusSays, FromALoadOn, CouplerRuns and EngineUnique, in their order; the files named ..Laws
-- hold what these need; Cases, CurveCases and PTableHolds are computed.
pub mod FlagLaws
pub mod ActionRuleLaws
pub mod TurnRuleLaws
pub mod EndRuleLaws
pub mod Demand3
pub mod DeedLaws
pub mod ActLaws
pub mod Consequences
pub mod WhatWasDone
pub mod Refusals
pub mod RuleCountLaws
pub mod CountSays
pub mod StatusSays
pub mod AskLaws
pub mod FromALoadOn
pub mod CouplerRuns
pub mod EngineUnique
pub mod Cases
pub mod CurveCases
pub mod PTableHolds
