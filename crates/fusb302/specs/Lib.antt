-- How the code is the machine: what stands at an address, the parts of a device and what they hold.
pub mod Places
pub mod Refusals
pub mod Messages
pub mod Queued
pub mod Held
pub mod Sensed
pub mod View
pub mod Serves
pub mod Why
pub mod Theorems
