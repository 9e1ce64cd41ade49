-- Laws that the functions' proofs share.
pub mod Octets
pub mod Queueing
pub mod Serving
pub mod Sensing
pub mod Showing
pub mod Answering
pub mod Sending
pub mod Becoming
pub mod Storing
pub mod Waiting
pub mod Refusing
pub mod Writing
pub mod Hearing
pub mod Explaining
pub mod Outcomes
