-- What is on a line: the text of a record, and a line of text for each frame in it.
pub mod Form
pub mod Lines
pub mod Listed
pub mod Scans
pub mod Steps
pub mod Promises
pub mod Calls
pub mod Cases
pub mod Theorems
