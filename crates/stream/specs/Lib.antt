-- A program's standard input and output between two steps: what holds of it, and what each function promises.
pub mod Ready
pub mod Promises
pub mod Buffers
pub mod Theorems
