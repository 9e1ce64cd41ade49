-- What the line code is and promises (01, 'Line code (PD)'; 02, A4), in 01's order; Theorems.antt says what holds of it.
pub mod Symbol
pub mod Kind
pub mod Numbered
pub mod Crc
pub mod Frame
pub mod Refusal
pub mod Write
pub mod Read
pub mod Start
pub mod Reader
pub mod Place
pub mod Taken
pub mod Theorems
pub mod Examples
