-- A reader that holds its record: what its functions promise, and the walk over a record frame after frame (01, 'Line reader').
pub mod Step
pub mod Walk
pub mod Calls
pub mod Theorems
