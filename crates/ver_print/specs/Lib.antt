pub mod inside
pub mod Words
pub mod Ports
pub mod Values
pub mod Cells
pub mod Verilog
