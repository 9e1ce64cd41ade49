-- What the programs' texts are made of: hex, decimals, and texts one behind the other.
pub mod Ascii
pub mod Hex
pub mod Put
pub mod Page
pub mod Theorems
