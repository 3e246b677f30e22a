-- What only the functions inside the crate are specified by.
pub mod StoredUses
