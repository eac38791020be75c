pub mod Calls
pub mod Codes
pub mod Refusals
pub mod Rows
pub mod CodeFacts
pub mod RefusalFacts
pub mod RowFacts
