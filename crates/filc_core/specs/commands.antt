-- The commands, one file for each; NetRun, CalRun, Transactions and Making have what several of them share.
pub mod Check
pub mod Rows
pub mod NetRun
pub mod SimNet
pub mod TraceNet
pub mod Transactions
pub mod Flow
pub mod Timeline
pub mod Making
pub mod SimFil
pub mod TraceFil
pub mod CalRun
pub mod SimCal
pub mod TraceCal
pub mod SchedCal
pub mod Soak
