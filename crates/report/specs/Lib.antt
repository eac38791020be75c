pub mod Letters
pub mod Verdict
