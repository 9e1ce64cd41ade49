-- Lives of a device: what its methods return and write over any calls, and what holds of it.
pub mod Lives
pub mod Theorems
