-- Laws that the functions' proofs share, and the proofs of specs/Theorems.antt.
pub mod Places
pub mod Answers
pub mod Texts
pub mod Goings
pub mod Staying
pub mod Symbols
pub mod Forms
pub mod Walks
pub mod Lists
pub mod CallsPrinting
pub mod Outcomes
pub mod Worked
