pub mod inside
pub use Rattle.hw_io.specs.Faults
pub use Rattle.hw_io.specs.Reading
pub use Rattle.hw_io.specs.Writing
pub use Rattle.net_core.specs.NetRun
pub use Rattle.net_text.specs.Reading as NetReading
pub use Rattle.hw_lex.specs.Nesting
pub use Rattle.fil_ast.specs.Rules as FilRules
pub use Rattle.fil_parse.specs.Spelling as FilSpelling
pub use Rattle.stim_read.specs.CycleRun
pub use Rattle.filc_stop.specs.Outcome
pub use Rattle.filc_stop.specs.Leaving
pub use Rattle.filc_load.specs.Source
pub use Rattle.filc_report.specs.Runs
pub mod Words
pub mod Arguments
pub mod Shape
pub mod Command
pub mod commands
pub mod Request
pub mod Verdict
pub mod Call
pub mod Files
pub mod TopCall
