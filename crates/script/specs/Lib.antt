pub mod First
pub mod Lines
pub mod Reading
pub mod RefusalFacts
pub mod Refusals
pub mod Rehearsal
pub mod Texts
pub mod Work
