pub mod NameLemmas
pub mod PortLemmas
pub mod GuardLemmas
pub mod WrittenLemmas
pub mod TextLemmas
