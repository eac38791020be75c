pub mod Bytes
pub mod Records
pub mod Tape
pub mod RecordFacts
