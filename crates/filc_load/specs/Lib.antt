pub use Rattle.filc_stop.specs.Outcome
pub use Rattle.filc_stop.specs.Stops
pub use Rattle.hw_io.specs.Faults
pub use Rattle.hw_io.specs.Reading
pub use Rattle.net_core.specs.NetRun
pub use Rattle.net_text.specs.Reading as NetReading
pub use Rattle.hw_lex.specs.Nesting
pub use Rattle.fil_ast.specs.Rules as FilRules
pub use Rattle.fil_parse.specs.Spelling as FilSpelling
pub use Rattle.stim_read.specs.CycleRun
pub mod NetFile
pub mod FilFile
pub mod CalFile
pub mod Source
pub mod Settable
pub mod Given
pub mod StimulusFile
pub mod Slots
pub mod Built
