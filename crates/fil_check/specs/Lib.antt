pub mod inside
pub mod First
pub mod Needed
pub mod Units
pub use Rattle.fil_rules.specs.Held
pub use Rattle.fil_rules.specs.Least
