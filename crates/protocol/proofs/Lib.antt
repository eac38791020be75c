pub mod Lawful
pub mod LawfulCalls
pub mod NotesBelow
pub mod SteadyRows
pub mod SameCalls
