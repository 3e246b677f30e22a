pub mod PartLemmas
pub mod ActivityLemmas
pub mod PortLemmas
pub mod DriverLemmas
pub mod OrderLemmas
pub mod DesignRunLemmas
