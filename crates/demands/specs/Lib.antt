-- The definitions of demand 3, and of what is said of it: History, Run, Acts, Deed, RuleCount, Asks, ChannelReadings; PTable has the cases of the proved table. The theorems over them stand in proofs/.
pub mod History
pub mod Run
pub mod Acts
pub mod Deed
pub mod RuleCount
pub mod Asks
pub mod ChannelReadings
pub mod PTable
