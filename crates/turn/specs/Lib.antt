-- A line of the bench's input, whole.
pub mod Turn
pub mod Theorems
