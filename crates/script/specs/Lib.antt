-- The bench's text (01, 'On the bench table', last part): which lines are in form, what each means, and what an outcome or a reason (02, A5) prints.
pub mod Text
pub mod Parse
pub mod Print
pub mod Cases
pub mod Theorems
