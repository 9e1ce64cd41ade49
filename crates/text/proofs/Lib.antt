-- Laws that the functions' proofs share, and the proofs of specs/Theorems.antt.
pub mod Chars
pub mod Texts
pub mod Pages
pub mod Decimals
pub mod Outcomes
