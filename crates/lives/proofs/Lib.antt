-- The proofs of specs/Theorems.antt.
pub mod Making
pub mod Living
pub mod Asking
