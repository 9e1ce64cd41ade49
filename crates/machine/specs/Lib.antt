-- The device as 01 describes it, in 01's order; Theorems.antt says what holds of every history.
pub mod Registers
pub mod State
pub mod Pins
pub mod Status
pub mod Queue
pub mod Headers
pub mod Requests
pub mod Packets
pub mod Events
pub mod Refusals
pub mod Step
pub mod Why
pub mod Good
pub mod Bench
pub mod Theorems
