-- What comes of the commands, by the files of their definitions, and the laws of each.
pub mod CheckLaws
pub mod RowsLaws
pub mod NetRunLaws
pub mod CalRunLaws
pub mod TransactionsLaws
pub mod MakingLaws
pub mod TraceFilLaws
pub mod SoakLaws
