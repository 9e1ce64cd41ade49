-- The proofs of specs/Theorems.antt, which the programs cite too.
pub mod Staying
pub mod Outcomes
