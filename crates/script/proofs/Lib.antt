-- Laws that the functions' proofs share, and the proofs of specs/Theorems.antt.
pub mod Masks
pub mod Numbers
pub mod Octets
pub mod Lines
pub mod Voltages
pub mod Texts
pub mod Outcomes
pub mod Numbered
