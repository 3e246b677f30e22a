pub mod inside
pub use Rattle.fil_promise.specs.Refines
pub use Rattle.filc_report.specs.Runs
pub mod Meant
pub mod Traced
pub mod Verilog
pub mod Soaked
