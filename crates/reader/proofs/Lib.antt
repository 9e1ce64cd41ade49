-- Laws that the functions' proofs share, and the proofs of specs/Theorems.antt.
pub mod Steps
pub mod Walking
pub mod Calling
pub mod Outcomes
