pub mod inside
pub use Rattle.net_core.specs.Netlist
pub mod Layout
pub mod Names
pub mod Reading
