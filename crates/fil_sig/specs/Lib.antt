pub mod inside
pub use Rattle.fil_ast.specs.Signature
pub mod Seen
pub mod Refusals
