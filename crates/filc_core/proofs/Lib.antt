pub mod WordLemmas
pub mod LanguageLemmas
pub mod ShapeLemmas
pub mod AskLemmas
pub mod FileLemmas
pub mod SourceLemmas
pub mod TellLemmas
pub mod PerformLemmas
pub mod CommandLaws
pub mod LawLemmas
pub mod AnswerLemmas
pub use Rattle.filc_core.proofs.commands.CalRunLaws as CalRunLemmas
pub use Rattle.filc_core.proofs.commands.MakingLaws as MakingLemmas
