pub mod DiskFilesLemmas
pub mod EntryLemmas
pub mod MemFilesLemmas
pub mod ReadingLemmas
pub mod WritingLemmas
