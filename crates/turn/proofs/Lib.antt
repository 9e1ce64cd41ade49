-- Laws that the functions' proofs share.
pub mod Turning
pub mod OneWay
